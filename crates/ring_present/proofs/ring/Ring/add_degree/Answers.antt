use Rattle.std.proofs.Common.{◌≡◌, ℕ, suc, List, length, map, ap, ◌∙◌}
use Rattle.std.specs.Prelude.{Option}
use Rattle.std.proofs.lemmas.List.{map-append}
use Rattle.std.proofs.lemmas.Result.{on_ok_weaker}
use mathlib.Core.Path.{subst}
use Rattle.p_groups.specs.PGroups.{PGroup}
use Rattle.graded_polynomials.specs.Polynomials.{Polynomial}
use Rattle.gc_poly.specs.Generators.{Generators}
use Rattle.chain_lift.specs.Values.{LiftValue}
use Rattle.ring_present.specs.Values.{RingValue, GeneratorValue}
use Rattle.cohomology_degree.specs.Degrees.{classes, lifted}
use Rattle.ring_present.specs.Prefixes.{IsPrefix}
use Rattle.ring_present.specs.Stores.{IsRingOf, IsRingStore}
use Rattle.cohomology_degree.specs.declared.degree.Degree.{Degree}
use Rattle.ring_present.proofs.Cohomology.{cohomology-ring}
use Rattle.ring_present.specs.KnownTables.{IsCandidateStore, IsTableStore}
use Rattle.ring_present.proofs.FirstTables.{table-store-known, table-store-same, candidate-store-known}
use Rattle.ring_present.proofs.FirstTables.{candidate-store-same}
use Rattle.ring_present.proofs.Stores.{store-same, store-known, lifted-kept, on-err-six, after, after-four}
use Rattle.ring_present.proofs.ring.Ring.add_degree.Goals as goal

pub invariant_of-self : goal.invariant_of-self
invariant_of-self c =
    let k = c.self.inside.known in
    let n = c.add_degree.new.self in
    let e = c.add_degree.ensures in (
      after {S = IsRingStore n.group n.gens n.lifts.items n.relations.items n.degrees.items}
          c.add_degree.result e.group e.degrees_of_gens e.ring
          (λ g d r. store-known c.args.res.now.group n.group n.gens n.lifts.items n.relations.items
          n.degrees.items g d r)
          e.group_kept e.gens_kept e.lifts_kept e.relations_kept e.degrees_kept
          (λ a b l r d. store-same k.group n.group k.gens n.gens k.lifts.items n.lifts.items k.relations.items
          n.relations.items k.degrees.items n.degrees.items a b l r d c.self.invariant.0),
      after-four {S = IsTableStore n.group n.lifts.items n.degrees.items n.tables.items}
          c.add_degree.result e.group e.tables
          (λ g t. table-store-known c.args.res.now.group n.group n.lifts.items n.degrees.items n.tables.items
          g t)
          e.group_kept e.lifts_kept e.degrees_kept e.tables_kept
          (λ a l d t. table-store-same k.group n.group k.lifts.items n.lifts.items k.degrees.items
          n.degrees.items k.tables.items n.tables.items a l d t c.self.invariant.1),
      after-four {S = IsCandidateStore n.group n.lifts.items n.degrees.items n.candidates}
          c.add_degree.result e.group e.candidates
          (λ g t. candidate-store-known c.args.res.now.group n.group n.lifts.items n.degrees.items
          n.candidates
          g t)
          e.group_kept e.lifts_kept e.degrees_kept e.candidates_kept
          (λ a l d t. candidate-store-same k.group n.group k.lifts.items n.lifts.items k.degrees.items
          n.degrees.items k.candidates n.candidates a l d t c.self.invariant.2),
    )

pub returns-clause-degree : goal.returns-clause-degree
returns-clause-degree c = on_ok_weaker c.add_degree.result (λ e. e
    ∙ ap (λ (r : RingValue). suc r.degree) c.self.view_is) c.add_degree.ensures.degree

pub returns-clause-generators_kept : goal.returns-clause-generators_kept
returns-clause-generators_kept c =
    on_ok_weaker c.add_degree.result (λ e. subst
    (λ (gs : List GeneratorValue). IsPrefix gs (lifted c.add_degree.new.self.lifts.items))
    (ap (λ (r : RingValue). r.generators) c.self.view_is) e) c.add_degree.ensures.lifts_grown

pub returns-clause-relations_kept : goal.returns-clause-relations_kept
returns-clause-relations_kept c =
    on_ok_weaker c.add_degree.result (λ e. subst
    (λ (rs : List Polynomial). IsPrefix rs c.add_degree.new.self.relations.items)
    (ap (λ (r : RingValue). r.relations) c.self.view_is) e) c.add_degree.ensures.relations_grown

pub returns-clause-standard_kept : goal.returns-clause-standard_kept
returns-clause-standard_kept c =
    on_ok_weaker c.add_degree.result (λ e. subst
    (λ (ss : List (List (List ℕ))). IsPrefix ss
    (map (λ (d : Degree). d.standard.monomials) c.add_degree.new.self.degrees.items))
    (ap (λ (r : RingValue). r.standard) c.self.view_is)
    (prefix-map (λ (d : Degree). d.standard.monomials) c.self.inside.known.degrees.items
    c.add_degree.new.self.degrees.items e)) c.add_degree.ensures.degrees_grown
  where
    prefix-map : (f : Degree → List (List ℕ)) (xs ys : List Degree) → IsPrefix xs ys
        → IsPrefix (map f xs) (map f ys)
    prefix-map f xs ys p = (map f p.0, ap (map f) p.1 ∙ map-append f xs p.0)

-- what is seen of a ring
abbrev seen : Generators → Option PGroup → List GeneratorValue → List Polynomial → List Degree
    → List (List ℕ) → RingValue
seen g o gs rs Ds cs = record {
  prime = g.prime;
  group = o;
  degree = length Ds;
  generators = gs;
  relations = rs;
  standard = map (λ (d : Degree). d.standard.monomials) Ds;
  candidates = cs;
}

same-view : (g g' : Generators) (o o' : Option PGroup) (ls ls' : List LiftValue) (rs rs' : List Polynomial)
    (Ds Ds' : List Degree) (cs cs' : List (List ℕ)) → g ≡ g' → o ≡ o' → lifted ls ≡ lifted ls' → rs ≡ rs'
    → Ds ≡ Ds' → cs ≡ cs' → seen g o (lifted ls) rs Ds cs ≡ seen g' o' (lifted ls') rs' Ds' cs'
same-view g g' o o' ls ls' rs rs' Ds Ds' cs cs' eg eo el er ed ec =
    ap (λ (g : Generators). seen g o (lifted ls) rs Ds cs) eg
    ∙ ap (λ (o : Option PGroup). seen g' o (lifted ls) rs Ds cs) eo
    ∙ ap (λ (gs : List GeneratorValue). seen g' o' gs rs Ds cs) el
    ∙ ap (λ (rs : List Polynomial). seen g' o' (lifted ls') rs Ds cs) er
    ∙ ap (λ (Ds : List Degree). seen g' o' (lifted ls') rs' Ds cs) ed
    ∙ ap (seen g' o' (lifted ls') rs' Ds') ec

pub returns-clause-kept : goal.returns-clause-kept
returns-clause-kept c =
    let k = c.self.inside.known in
    let n = c.add_degree.new.self in
    let e = c.add_degree.ensures in
    on-err-six c.add_degree.result e.group_kept e.gens_kept e.lifts_kept e.relations_kept e.degrees_kept
    e.candidates_kept
    (λ a b l r d m. same-view n.gens k.gens n.group k.group n.lifts.items k.lifts.items n.relations.items
    k.relations.items n.degrees.items k.degrees.items n.candidates k.candidates b a
    (lifted-kept n.lifts.items k.lifts.items l) r d m
    ∙ c.self.view_is)

pub returns-clause-cohomology : goal.returns-clause-cohomology
returns-clause-cohomology c =
    let n = c.add_degree.new.self in
    on_ok_weaker c.add_degree.result
    (λ (r : IsRingOf c.args.res.now.group n.gens n.lifts.items n.relations.items n.degrees.items).
    cohomology-ring c.args.res.now.group (length n.degrees.items) (classes c.args.res.now.group n.lifts.items)
    n.relations.items r.presentation) c.add_degree.ensures.ring
