use Rattle.std.proofs.Common.{◌≡◌, ℕ, suc, ◌+◌, ◌≤◌, List, [], ◌∷◌, ◌++◌, length, take, arith, ap, sym, ◌∙◌}
use Rattle.std.proofs.Common.{add-one}
use Rattle.std.specs.Prelude.{slice_index_or, All}
use Rattle.std.proofs.lemmas.List.{append-nil}
use mathlib.Core.Path.{subst}
use Rattle.p_groups.specs.PGroups.{PGroup}
use Rattle.p_groups.proofs.Fields.{residues}
use Rattle.linear_algebra.specs.Rows.{row}
use Rattle.fp_rows.specs.Values.{MatrixValue}
use Rattle.fp_rows.specs.Refs.{entries_of}
use Rattle.graded_polynomials.specs.Texts.{power}
use Rattle.gc_poly.specs.Generators.{Generators}
use Rattle.cohomology_degree.specs.KnownTables.{generators_from}
use Rattle.cohomology_degree.specs.Degrees.{AreLeftOf, degrees_of, new_lift, IsLiftBelow}
use Rattle.cohomology_degree.proofs.Lists.{map-more, index-at}
use Rattle.cohomology_degree.proofs.Places.{generators-few, generators-count, more-monomials, all-placed}
use Rattle.cohomology_degree.proofs.Factors.{positive-degrees}
use Rattle.cohomology_degree.proofs.Growing.{lifts-below, degrees-bounded, gens-added}
use Rattle.cohomology_degree.proofs.LeftMonomials.{greater-than-new, left-added}
use Rattle.cohomology_degree.proofs.Nexts.{new-lifts-are, old-relations}
use Rattle.cohomology_degree.proofs.values.Lower.new_generators.Goals as goal

pub loop-i-init : goal.loop-i-init
loop-i-init c =
    let e : c.args.self.now.lifts.now ≡ c.args.self.now.lifts.now ++ c.new-lifts.result.items =
    sym (ap (λ xs. c.args.self.now.lifts.now ++ xs) c.new-lifts.ensures.items
    ∙ append-nil c.args.self.now.lifts.now) in
    record {
      lifts = c.new-lifts.ensures.items;
      gens = c.requires.gens ∙ ap (λ ls. record {
        prime = c.args.res.now.group.table.p;
        degrees = degrees_of ls;
      }) e;
      left = subst (λ ls. AreLeftOf c.args.res.now.group c.args.self.now.relations.now
          (suc (length c.args.self.now.degrees.now)) ls c.args.left.now) e c.requires.left;
      monomials = sym (append-nil c.args.left.now.monomials);
      rows = sym (append-nil c.args.left.now.values.rows);
    }

pub add_generator-requires-clause-few : goal.add_generator-requires-clause-few
add_generator-requires-clause-few c =
    let n : ℕ = length c.args.self.now.degrees.now in
    generators-few c.args.self.now.lifts.now c.loop-i.lifts.items
    (λ k. new_lift c.args.res.now.group (suc n)
    (row c.args.basis.now.rows k)) c.args.places.now c.loop-i.gens
    c.args.res.now.group.table.p c.loop-i.i n c.requires.lower.few c.requires.high
    (omega arith) c.requires.few c.loop-i.invariant.lifts c.loop-i.invariant.gens

pub add_generator-requires-clause-order : goal.add_generator-requires-clause-order
add_generator-requires-clause-order c =
    let G : PGroup = c.args.res.now.group in
    let n : ℕ = length c.args.self.now.degrees.now in
    let below = lifts-below G n c.args.self.now.lifts.now c.loop-i.lifts.items c.args.basis.now.rows
    (take c.loop-i.i c.args.places.now)
    (subst (λ g. All (IsLiftBelow g n) c.args.self.now.lifts.now) c.requires.group c.requires.lower.lifts_are)
    c.loop-i.invariant.lifts in
    subst (λ m. All (λ e. e ≤ m) c.loop-i.gens.degrees) (sym (add-one n))
    (degrees-bounded G (suc n) (c.args.self.now.lifts.now ++ c.loop-i.lifts.items) c.loop-i.gens.degrees below
    (ap (λ (g : Generators). g.degrees) c.loop-i.invariant.gens))

pub add_generator-requires-clause-values_prime : goal.add_generator-requires-clause-values_prime
add_generator-requires-clause-values_prime c =
    c.loop-i.invariant.left.valued.prime ∙ residues c.args.res.now.group

pub add_generator-requires-clause-values_width : goal.add_generator-requires-clause-values_width
add_generator-requires-clause-values_width c =
    c.loop-i.invariant.left.valued.width ∙ sym (ap length c.row-class.ensures.entries
    ∙ c.row-class.ensures.is_row.length_is ∙ c.requires.basis_width)

pub add_generator-requires-clause-greater : goal.add_generator-requires-clause-greater
add_generator-requires-clause-greater c =
    let G : PGroup = c.args.res.now.group in
    let n : ℕ = length c.args.self.now.degrees.now in
    let below = lifts-below G n c.args.self.now.lifts.now c.loop-i.lifts.items c.args.basis.now.rows
    (take c.loop-i.i c.args.places.now)
    (subst (λ g. All (IsLiftBelow g n) c.args.self.now.lifts.now) c.requires.group c.requires.lower.lifts_are)
    c.loop-i.invariant.lifts in
    let are = new-lifts-are G n c.args.basis.now.rows (take c.loop-i.i c.args.places.now) c.loop-i.lifts.items
    c.loop-i.invariant.lifts in
    greater-than-new G n (c.args.self.now.lifts.now ++ c.loop-i.lifts.items) c.args.self.now.relations.now
    (positive-degrees G (suc n) (c.args.self.now.lifts.now ++ c.loop-i.lifts.items) below)
    (old-relations G n c.args.self.now.lifts.now c.loop-i.lifts.items c.args.self.now.relations.now
    c.requires.relations are)
    (entries_of c.row-class.result)
    (ap length c.row-class.ensures.entries ∙ c.row-class.ensures.is_row.length_is ∙ c.requires.basis_width)
    (length c.loop-i.gens.degrees) c.loop-i.left.monomials c.loop-i.invariant.left.left
    (ap (λ (g : Generators). length g.degrees) c.loop-i.invariant.gens)

pub loop-i-preserved : goal.loop-i-preserved
loop-i-preserved c =
    let G : PGroup = c.args.res.now.group in
    let n : ℕ = length c.args.self.now.degrees.now in
    let old = c.loop-i.lifts.items in
    let class : List ℕ = entries_of c.row-class.result in
    let below = lifts-below G n c.args.self.now.lifts.now old c.args.basis.now.rows
    (take c.loop-i.i c.args.places.now)
    (subst (λ g. All (IsLiftBelow g n) c.args.self.now.lifts.now) c.requires.group c.requires.lower.lifts_are)
    c.loop-i.invariant.lifts in
    let at : slice_index_or c.args.places.now c.loop-i.i c.get.result ≡ c.get.result =
    sym (c.get.ensures ∙ index-at c.args.places.now c.loop-i.i c.get.result (omega arith)) in
    let next : c.add_generator.new.lifts.items ≡ old ++ new_lift G (suc n) class ∷ [] =
    c.in_ok-add_generator.ensures.lifts ∙ ap (λ d. old ++ new_lift G d class ∷ []) (add-one n) in
    record {
      lifts = map-more (λ k. new_lift G (suc n)
          (row c.args.basis.now.rows k)) [] old c.add_generator.new.lifts.items c.args.places.now c.loop-i.i
          c.get.result (omega arith) at c.loop-i.invariant.lifts
          (next ∙ ap (λ r. old ++ new_lift G (suc n) r ∷ []) c.row-class.ensures.entries);
      gens = gens-added G.table.p (n + 1) c.args.self.now.lifts.now old c.add_generator.new.lifts.items
          (new_lift G (suc n) class) c.loop-i.gens c.add_generator.new.gens c.loop-i.invariant.gens
          (sym (add-one n)) next c.in_ok-add_generator.ensures.gens;
      left = left-added G n c.args.self.now.lifts.now old c.add_generator.new.lifts.items
          c.args.self.now.relations.now class c.loop-i.left c.add_generator.new.left
          (positive-degrees G (suc n) (c.args.self.now.lifts.now ++ old) below)
          (old-relations G n c.args.self.now.lifts.now old c.args.self.now.relations.now c.requires.relations
          (new-lifts-are G n c.args.basis.now.rows (take c.loop-i.i c.args.places.now) old
          c.loop-i.invariant.lifts))
          (ap length c.row-class.ensures.entries ∙ c.row-class.ensures.is_row.length_is
          ∙ c.requires.basis_width) c.loop-i.invariant.left next
          (c.in_ok-add_generator.ensures.monomials
          ∙ ap (λ (g : Generators). c.loop-i.left.monomials ++ power
          (length g.degrees) 1 ∷ []) c.loop-i.invariant.gens)
          c.in_ok-add_generator.ensures.values;
      monomials = more-monomials c.args.left.now.monomials c.loop-i.left.monomials
          c.add_generator.new.left.monomials (length c.args.self.now.lifts.now) c.loop-i.i
          c.loop-i.invariant.monomials
          (c.in_ok-add_generator.ensures.monomials
          ∙ ap (λ k. c.loop-i.left.monomials ++ power k 1 ∷ [])
          (generators-count c.args.self.now.lifts.now old
          (λ k. new_lift G (suc n) (row c.args.basis.now.rows k)) c.args.places.now c.loop-i.gens G.table.p
          c.loop-i.i (omega arith) c.loop-i.invariant.lifts c.loop-i.invariant.gens));
      rows = map-more (row c.args.basis.now.rows) c.args.left.now.values.rows c.loop-i.left.values.rows
          c.add_generator.new.left.values.rows c.args.places.now c.loop-i.i c.get.result
          (omega arith) at c.loop-i.invariant.rows
          (ap (λ (m : MatrixValue). m.rows) c.in_ok-add_generator.ensures.values
          ∙ ap (λ r. c.loop-i.left.values.rows ++ r ∷ []) c.row-class.ensures.entries);
    }

pub returns-clause-monomials : goal.returns-clause-monomials
returns-clause-monomials c = c.loop-i.invariant.monomials
    ∙ ap (λ k. c.args.left.now.monomials ++ generators_from (length c.args.self.now.lifts.now) k)
    (all-placed c.loop-i.lifts.items (λ k. new_lift c.args.res.now.group
    (suc (length c.args.self.now.degrees.now)) (row c.args.basis.now.rows k)) c.args.places.now c.loop-i.i
    (omega arith) (omega arith) c.loop-i.invariant.lifts)
