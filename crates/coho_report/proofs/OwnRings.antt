-- Rings and stages of elementary abelian subgroups.
use Rattle.std.proofs.Common.{◌≡◌, ◌∙◌, ℕ, zero, suc, ◌+◌, ◌<◌, ◌≤◌, ◌⊎◌, inl, inr, List, [], ◌∷◌, arith, ap}
use Rattle.std.proofs.Common.{sym, subst}
use Rattle.std.specs.Prelude.{IfSome, MatchOption, Option, Some, None}
use Rattle.std.specs.List.{AllByRecursion as Each}
use Rattle.std.proofs.lemmas.Bool.{cases_lt}
use Rattle.p_groups.specs.PGroups.{PGroup}
use Rattle.graded_polynomials.proofs.Terms.{each-append}
use Rattle.graded_algebra.specs.Algebras.{Algebra, Generator, degrees}
use Rattle.graded_algebra.specs.Presentations.{IsSpanGenerators, generators_of}
use Rattle.min_res.specs.Refusals as stages
use Rattle.min_res.specs.declared.fault.ResFault.{ResFault}
use Rattle.min_res.specs.declared.fault.ResFault.TheVariants as fault
use Rattle.ring_present.specs.Known.{IsStart, IsThrough}
use Rattle.ring_present.specs.Values.{RingValue}
use Rattle.chain_lift.specs.Embeddings.{elementary}
use Rattle.coho_report.specs.OwnRings.{IsKnownRing, IsOwnRing}
use Rattle.coho_report.specs.declared.own_rings.OwnRing.{OwnRing}
use Rattle.coho_report.specs.Limits.{dimension, HasSmallStages}
use Rattle.coho_report.specs.Refusals.{IsStageRefusal}

-- a ring through a degree that is not 0 is that of its group
pub some_group : (G : PGroup) (g : Option PGroup) (R : RingValue) → R.group ≡ g → IfSome g (λ H. H ≡ G)
    → MatchOption g (IsStart R) (λ H. IsThrough H R) → 1 ≤ R.degree → R.group ≡ Some G
some_group G None R e same known low = absurd (let none = known.degree_is in omega (arith, none, low))
some_group G (Some H) R e same known low = e ∙ ap Some same

-- a fault at the degree after the last one that is small is that of the first that is too large
pub large_first : (E : PGroup) (last n limit : ℕ) (e : ResFault) → last < n → HasSmallStages E last limit
    → stages.IsRefusal E (suc last) limit e → IsStageRefusal E n limit e
large_first E last n limit (fault.TooLarge d X) less small r =
    let at = r.0 in
    record {
      from = omega (arith, at);
      to = omega (arith, at, less);
      is = r.1 ∙ ap (dimension E) (sym at);
      above = r.2;
      first = λ c from before. small c from (omega (arith, before, at));
    }
large_first E last n limit fault.Memory less small r = tt

-- the degrees of generators through degree n are from 1 to n
module _ (q : ℕ) {V : Type 0} (A : Algebra V) (basis : ℕ → List V) where
  abbrev pub IsWithin : ℕ → Generator V → Type 0
  IsWithin n g = (1 ≤ g.degree) × (g.degree ≤ n)

  new-within : (n : ℕ) (vs : List V) → Each (IsWithin (suc n)) (generators_of q A (suc n) vs)
  new-within n [] = tt
  new-within n (v ∷ vs) = ((omega arith, omega arith), new-within n vs)

  wider : (n : ℕ) (gs : List (Generator V)) → Each (IsWithin n) gs → Each (IsWithin (suc n)) gs
  wider n [] e = tt
  wider n (g ∷ gs) e = ((e.0.0, (let h = e.0.1 in omega (arith, h))), wider n gs e.1)

  pub degrees_within : (n : ℕ) (gs : List (Generator V)) → IsSpanGenerators q A basis n gs
      → Each (IsWithin n) gs
  degrees_within zero gs e = subst (λ gs. Each (IsWithin zero) gs) (sym e) tt
  degrees_within (suc n) gs (before, ms, chosen, lower, monomials, choice, is) =
      subst (λ gs. Each (IsWithin (suc n)) gs) (sym is)
      (each-append (IsWithin (suc n)) before (generators_of q A (suc n) chosen)
      (wider n before (degrees_within n before lower)) (new-within n chosen))

  -- so none is 0
  pub positive_degrees : (n : ℕ) (gs : List (Generator V)) → IsSpanGenerators q A basis n gs
      → Each (λ d. 0 < d) (degrees gs)
  positive_degrees n gs e = positive gs (degrees_within n gs e)
    where
      positive : (gs : List (Generator V)) → Each (IsWithin n) gs → Each (λ d. 0 < d) (degrees gs)
      positive [] e = tt
      positive (g ∷ gs) e = ((let low = e.0.0 in omega (arith, low)), positive gs e.1)

-- a ring of a subgroup's rank is known
pub known_ring : (G : PGroup) (n limit s : ℕ) (o k : OwnRing) → IsOwnRing G n s o
    → HasSmallStages (elementary G s) n limit → k ≡ o → IsKnownRing G n limit k
known_ring G n limit s o k own small same =
    let rank = sym own.rank_is in
    subst (IsKnownRing G n limit) (sym same) (record {
      own = subst (λ s. IsOwnRing G n s o) rank own;
      small = subst (λ s. HasSmallStages (elementary G s) n limit) rank small;
    })
