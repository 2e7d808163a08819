use Rattle.std.proofs.Common.{◌≡◌, List, [], ◌++◌, ◌∙◌, ap, sym, subst, ℕ}
use Rattle.subgroup_list.specs.Search.{IsPlace, IsFound, lists}
use Rattle.subgroup_list.proofs.Places.{place_start, found_all}
use Rattle.elementary_subgroups.proofs.GroupLaws.{law_of}
use Rattle.subgroup_list.proofs.search.maximal_lists.Goals as goal

pub explore-requires : goal.explore-requires
explore-requires c =
    let P : List ℕ → Type 0 = λ l. IsPlace c.args.g.now [] l [] in
    record {
      place = subst P (sym (c.deref.ensures.value ∙ c.in_ok-torsion.ensures))
          (place_start c.args.g.now);
    }

pub returns : goal.returns
returns c =
    let r = c.in_ok-explore.ensures in
    let P : List ℕ → Type 0 = λ l. IsFound c.args.g.now [] l r.0 in
    let q : lists c.explore.new.found.items ≡ r.0 = r.1
    ∙ ap (λ l. lists l ++ r.0) c.new-found.ensures.items in
    rw q (found_all (law_of c.args.g.now c.order.ensures.law) r.0
    (subst P (c.deref.ensures.value ∙ c.in_ok-torsion.ensures) r.2))
