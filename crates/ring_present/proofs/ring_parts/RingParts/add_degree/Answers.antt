use Rattle.std.proofs.Common.{◌≡◌, ℕ, suc, List, ◌++◌, [], ◌∷◌, length, map, arith, ap, ap₂, sym}
use Rattle.std.proofs.Common.{◌∙◌, add-one, append_assoc}
use Rattle.std.proofs.lemmas.List.{with_items_is, length_push}
use mathlib.Core.Path.{subst}
use Rattle.p_groups.specs.PGroups.{PGroup}
use Rattle.graded_polynomials.specs.Polynomials.{Polynomial}
use Rattle.chain_lift.specs.Values.{LiftValue}
use Rattle.cohomology_degree.specs.Rings.{IsPresentation}
use Rattle.cohomology_degree.specs.Degrees.{classes, kept, lifted, IsLower}
use Rattle.ring_degree.specs.declared.table.Table.{Table}
use Rattle.cohomology_degree.specs.KnownTables.{AreCandidatesOf, HasTables}
use Rattle.ring_present.specs.KnownTables.{IsFirst}
use Rattle.cohomology_degree.specs.declared.degree.Degree.{Degree}
use Rattle.ring_present.proofs.Stores.{IsBefore, before-of, lower-kept, classes-kept, degrees-kept}
use Rattle.ring_present.proofs.Stores.{lifted-kept, lifted-append, ring-next, on-err}
use Rattle.ring_present.proofs.FirstTables.{tables-before, tables-kept}
use Rattle.ring_present.proofs.ring_parts.RingParts.add_degree.Goals as goal

pub next-requires-clause-lower : goal.next-requires-clause-lower
next-requires-clause-lower c =
    let H : PGroup = c.args.res.now.group in
    let k = c.args.self.now in
    let hg : c.group-group.result.now ≡ H = c.group-group.ensures ∙ c.algebra.ensures in
    let B = before-of k.group k.gens k.lifts.items k.relations.items k.degrees.items H c.requires.same_group
    c.requires.store in
    let same : c.deref-2.result.now ≡ c.raise.new.lifts = c.deref-2.ensures.value
    ∙ with_items_is k.lifts c.raise.new.lifts
    (let a = c.raise.auto.lifts in let b = c.deref_mut.ensures.len in omega (arith, a, b)) in
    let K : map kept c.deref-2.result.now ≡ map kept k.lifts.items = ap (map kept) same
    ∙ c.in_ok-raise.ensures.kept ∙ ap (map kept) c.deref_mut.ensures.value in
    subst (λ (g : PGroup). IsLower g c.deref-2.result.now c.deref-4.result.now) (sym hg)
    (subst (λ (Ds : List Degree). IsLower H c.deref-2.result.now Ds) (sym c.deref-4.ensures.value)
    (lower-kept H c.deref-2.result.now k.lifts.items k.degrees.items K B.lower))

pub next-requires-clause-presentation : goal.next-requires-clause-presentation
next-requires-clause-presentation c =
    let H : PGroup = c.args.res.now.group in
    let k = c.args.self.now in
    let hg : c.group-group.result.now ≡ H = c.group-group.ensures ∙ c.algebra.ensures in
    let B = before-of k.group k.gens k.lifts.items k.relations.items k.degrees.items H c.requires.same_group
    c.requires.store in
    let same : c.deref-2.result.now ≡ c.raise.new.lifts = c.deref-2.ensures.value
    ∙ with_items_is k.lifts c.raise.new.lifts
    (let a = c.raise.auto.lifts in let b = c.deref_mut.ensures.len in omega (arith, a, b)) in
    let K : map kept c.deref-2.result.now ≡ map kept k.lifts.items = ap (map kept) same
    ∙ c.in_ok-raise.ensures.kept ∙ ap (map kept) c.deref_mut.ensures.value in
    (subst (λ (Ds : List Degree). IsPresentation H (length Ds)
    (classes H c.deref-2.result.now) c.deref-3.result.now) (sym c.deref-4.ensures.value)
    (subst (λ (rs : List Polynomial). IsPresentation H (length k.degrees.items)
    (classes H c.deref-2.result.now) rs) (sym c.deref-3.ensures.value)
    (subst (λ gs. IsPresentation H (length k.degrees.items) gs k.relations.items)
    (sym (classes-kept H c.deref-2.result.now k.lifts.items K)) B.presentation)))

pub or_first-requires : goal.or_first-requires
or_first-requires c =
    subst (λ ts. IsFirst ts c.deref-6.result.now) (c.deref.ensures.value ∙ sym c.deref-5.ensures.value)
    (subst (λ ts. IsFirst c.deref.result.now ts) (sym c.deref-6.ensures.value) c.in_ok-first.ensures)

pub next-requires-clause-tables : goal.next-requires-clause-tables
next-requires-clause-tables c =
    let H : PGroup = c.args.res.now.group in
    let k = c.args.self.now in
    let hg : c.group-group.result.now ≡ H = c.group-group.ensures ∙ c.algebra.ensures in
    let same : c.deref-2.result.now ≡ c.raise.new.lifts = c.deref-2.ensures.value
    ∙ with_items_is k.lifts c.raise.new.lifts
    (let a = c.raise.auto.lifts in let b = c.deref_mut.ensures.len in omega (arith, a, b)) in
    let K : map kept c.deref-2.result.now ≡ map kept k.lifts.items = ap (map kept) same
    ∙ c.in_ok-raise.ensures.kept ∙ ap (map kept) c.deref_mut.ensures.value in
    subst (λ (Ds : List Degree). HasTables H (length Ds) c.deref-2.result.now c.or_first.result.now)
    (sym c.deref-4.ensures.value)
    (subst (HasTables H (length k.degrees.items) c.deref-2.result.now) (sym (c.or_first.ensures
    ∙ ap₂ (λ (xs ys : List Table). xs ++ ys) c.deref-5.ensures.value c.deref-6.ensures.value))
    (tables-kept H (length k.degrees.items) c.deref-2.result.now k.lifts.items
    (k.tables.items ++ c.in_ok-first.first.items) K
    (tables-before k.group k.gens k.lifts.items k.relations.items k.degrees.items k.tables.items
    c.in_ok-first.first.items H c.requires.same_group c.requires.store c.requires.tables
    (subst (λ ts. IsFirst ts c.in_ok-first.first.items) c.deref.ensures.value c.in_ok-first.ensures))))

pub next-requires-clause-gens : goal.next-requires-clause-gens
next-requires-clause-gens c =
    let H : PGroup = c.args.res.now.group in
    let k = c.args.self.now in
    let hg : c.group-group.result.now ≡ H = c.group-group.ensures ∙ c.algebra.ensures in
    let B = before-of k.group k.gens k.lifts.items k.relations.items k.degrees.items H c.requires.same_group
    c.requires.store in
    let same : c.deref-2.result.now ≡ c.raise.new.lifts = c.deref-2.ensures.value
    ∙ with_items_is k.lifts c.raise.new.lifts
    (let a = c.raise.auto.lifts in let b = c.deref_mut.ensures.len in omega (arith, a, b)) in
    let K : map kept c.deref-2.result.now ≡ map kept k.lifts.items = ap (map kept) same
    ∙ c.in_ok-raise.ensures.kept ∙ ap (map kept) c.deref_mut.ensures.value in
    c.in_ok-gens.ensures ∙ ap₂ (λ (p : ℕ) (ds : List ℕ). record { prime = p; degrees = ds }) (c.prime.ensures
    ∙ ap (λ (g : PGroup). g.table.p) hg)
    (c.requires.store.degrees_of_gens ∙ sym (degrees-kept c.deref-2.result.now k.lifts.items K))

pub returns-in_err-append-clause-lifts_kept : goal.returns-in_err-append-clause-lifts_kept
returns-in_err-append-clause-lifts_kept c =
    let H : PGroup = c.args.res.now.group in
    let k = c.args.self.now in
    let hg : c.group-group.result.now ≡ H = c.group-group.ensures ∙ c.algebra.ensures in
    let B = before-of k.group k.gens k.lifts.items k.relations.items k.degrees.items H c.requires.same_group
    c.requires.store in
    let same : c.deref-2.result.now ≡ c.raise.new.lifts = c.deref-2.ensures.value
    ∙ with_items_is k.lifts c.raise.new.lifts
    (let a = c.raise.auto.lifts in let b = c.deref_mut.ensures.len in omega (arith, a, b)) in
    let K : map kept c.deref-2.result.now ≡ map kept k.lifts.items = ap (map kept) same
    ∙ c.in_ok-raise.ensures.kept ∙ ap (map kept) c.deref_mut.ensures.value in
    on-err c.from_residual-in_err-append.result
    (ap (map kept) (c.in_err-append.ensures.lifts_kept ∙ sym c.deref-2.ensures.value) ∙ K)

pub returns-clause-ring : goal.returns-clause-ring
returns-clause-ring c =
    let H : PGroup = c.args.res.now.group in
    let k = c.args.self.now in
    let hg : c.group-group.result.now ≡ H = c.group-group.ensures ∙ c.algebra.ensures in
    let B = before-of k.group k.gens k.lifts.items k.relations.items k.degrees.items H c.requires.same_group
    c.requires.store in
    let same : c.deref-2.result.now ≡ c.raise.new.lifts = c.deref-2.ensures.value
    ∙ with_items_is k.lifts c.raise.new.lifts
    (let a = c.raise.auto.lifts in let b = c.deref_mut.ensures.len in omega (arith, a, b)) in
    let K : map kept c.deref-2.result.now ≡ map kept k.lifts.items = ap (map kept) same
    ∙ c.in_ok-raise.ensures.kept ∙ ap (map kept) c.deref_mut.ensures.value in
    let before : IsBefore H c.deref-2.result.now c.deref-3.result.now c.deref-4.result.now = record {
      lower = subst (λ (Ds : List Degree). IsLower H c.deref-2.result.now Ds) (sym c.deref-4.ensures.value)
          (lower-kept H c.deref-2.result.now k.lifts.items k.degrees.items K B.lower);
      presentation = subst (λ (Ds : List Degree). IsPresentation H (length Ds)
          (classes H c.deref-2.result.now) c.deref-3.result.now) (sym c.deref-4.ensures.value)
          (subst (λ (rs : List Polynomial). IsPresentation H (length k.degrees.items)
          (classes H c.deref-2.result.now) rs) (sym c.deref-3.ensures.value)
          (subst (λ gs. IsPresentation H (length k.degrees.items) gs k.relations.items)
          (sym (classes-kept H c.deref-2.result.now k.lifts.items K)) B.presentation));
    } in
    ring-next H c.append.new.self.gens c.deref-2.result.now c.append.new.self.lifts.items c.deref-3.result.now
    c.append.new.self.relations.items c.deref-4.result.now c.append.new.self.degrees.items
    c.in_ok-next.next before (let e = ap (λ (Ds : List Degree). length Ds) c.deref-4.ensures.value in omega
    (arith, e, c.requires.high)) c.in_ok-next.ensures.next c.in_ok-append.ensures.gens
    (c.in_ok-append.ensures.lifts ∙ ap (λ (ls : List LiftValue). ls ++ c.in_ok-next.next.lifts.items)
    (sym c.deref-2.ensures.value))
    (c.in_ok-append.ensures.relations ∙ ap (λ (rs : List Polynomial). rs ++ c.in_ok-next.next.relations.items)
    (sym c.deref-3.ensures.value))
    (c.in_ok-append.ensures.degrees ∙ ap (λ (Ds : List Degree). Ds ++ c.in_ok-next.next.degree ∷ [])
    (sym c.deref-4.ensures.value))

pub returns-clause-degree : goal.returns-clause-degree
returns-clause-degree c = ap (λ (Ds : List Degree). length Ds) c.in_ok-append.ensures.degrees
    ∙ length_push c.args.self.now.degrees.items c.in_ok-next.next.degree
    ∙ add-one (length c.args.self.now.degrees.items)

pub returns-clause-lifts_grown : goal.returns-clause-lifts_grown
returns-clause-lifts_grown c =
    let H : PGroup = c.args.res.now.group in
    let k = c.args.self.now in
    let hg : c.group-group.result.now ≡ H = c.group-group.ensures ∙ c.algebra.ensures in
    let B = before-of k.group k.gens k.lifts.items k.relations.items k.degrees.items H c.requires.same_group
    c.requires.store in
    let same : c.deref-2.result.now ≡ c.raise.new.lifts = c.deref-2.ensures.value
    ∙ with_items_is k.lifts c.raise.new.lifts
    (let a = c.raise.auto.lifts in let b = c.deref_mut.ensures.len in omega (arith, a, b)) in
    let K : map kept c.deref-2.result.now ≡ map kept k.lifts.items = ap (map kept) same
    ∙ c.in_ok-raise.ensures.kept ∙ ap (map kept) c.deref_mut.ensures.value in (
      lifted c.in_ok-next.next.lifts.items,
      ap lifted (c.in_ok-append.ensures.lifts
          ∙ ap (λ (ls : List LiftValue). ls ++ c.in_ok-next.next.lifts.items) (sym c.deref-2.ensures.value))
          ∙ lifted-append c.deref-2.result.now c.in_ok-next.next.lifts.items
          ∙ ap (λ gs. gs ++ lifted c.in_ok-next.next.lifts.items)
          (lifted-kept c.deref-2.result.now k.lifts.items K),
    )

pub returns-clause-relations_grown : goal.returns-clause-relations_grown
returns-clause-relations_grown c = (c.in_ok-next.next.relations.items, c.in_ok-append.ensures.relations)

pub returns-clause-degrees_grown : goal.returns-clause-degrees_grown
returns-clause-degrees_grown c = (c.in_ok-next.next.degree ∷ [], c.in_ok-append.ensures.degrees)

pub returns-clause-tables : goal.returns-clause-tables
returns-clause-tables c =
    let H : PGroup = c.args.res.now.group in
    let k = c.args.self.now in
    let ds : c.deref-4.result.now ≡ k.degrees.items = c.deref-4.ensures.value in
    let n : suc (length c.deref-4.result.now) ≡ length c.append.new.self.degrees.items =
    ap (λ (Ds : List Degree). suc (length Ds)) ds
    ∙ sym (ap (λ (Ds : List Degree). length Ds) c.in_ok-append.ensures.degrees
    ∙ length_push k.degrees.items c.in_ok-next.next.degree ∙ add-one (length k.degrees.items)) in
    let ts : c.or_first.result.now ++ c.in_ok-next.next.table ∷ [] ≡ c.append.new.self.tables.items =
    ap (λ xs. xs ++ c.in_ok-next.next.table ∷ []) (c.or_first.ensures
    ∙ ap₂ (λ (xs ys : List Table). xs ++ ys) c.deref-5.ensures.value c.deref-6.ensures.value)
    ∙ append_assoc k.tables.items c.in_ok-first.first.items (c.in_ok-next.next.table ∷ [])
    ∙ sym c.in_ok-append.ensures.tables in
    subst (λ ls. HasTables H (length c.append.new.self.degrees.items) ls c.append.new.self.tables.items)
    (ap (λ (ls : List LiftValue). ls ++ c.in_ok-next.next.lifts.items) c.deref-2.ensures.value
    ∙ sym c.in_ok-append.ensures.lifts)
    (subst (λ m. HasTables H m (c.deref-2.result.now ++ c.in_ok-next.next.lifts.items)
    c.append.new.self.tables.items) n
    (subst (HasTables H (suc (length c.deref-4.result.now))
    (c.deref-2.result.now ++ c.in_ok-next.next.lifts.items)) ts c.in_ok-next.ensures.tables))

pub returns-clause-candidates : goal.returns-clause-candidates
returns-clause-candidates c =
    let H : PGroup = c.args.res.now.group in
    let k = c.args.self.now in
    let n : suc (length c.deref-4.result.now) ≡ length c.append.new.self.degrees.items =
    ap (λ (Ds : List Degree). suc (length Ds)) c.deref-4.ensures.value
    ∙ sym (ap (λ (Ds : List Degree). length Ds) c.in_ok-append.ensures.degrees
    ∙ length_push k.degrees.items c.in_ok-next.next.degree ∙ add-one (length k.degrees.items)) in
    subst (λ ls. AreCandidatesOf H (length c.append.new.self.degrees.items) ls c.append.new.self.candidates)
    (ap (λ (ls : List LiftValue). ls ++ c.in_ok-next.next.lifts.items) c.deref-2.ensures.value
    ∙ sym c.in_ok-append.ensures.lifts)
    (subst (λ m. AreCandidatesOf H m (c.deref-2.result.now ++ c.in_ok-next.next.lifts.items)
    c.append.new.self.candidates) n
    (subst (AreCandidatesOf H (suc (length c.deref-4.result.now))
    (c.deref-2.result.now ++ c.in_ok-next.next.lifts.items)) (sym c.in_ok-append.ensures.candidates)
    c.in_ok-next.ensures.candidates))
