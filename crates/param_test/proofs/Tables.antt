-- Tables of candidates.
use Rattle.std.proofs.Common.{◌≡◌, ◌≢◌, ℕ, ◌<◌, ◌≤◌, ◌⊎◌, inl, inr, List, [], ◌∷◌, ◌++◌, length, get_or}
use Rattle.std.proofs.Common.{arith, ap, sym, subst, ◌∙◌}
use Rattle.std.specs.Prelude.{All, slice_index}
use Rattle.std.proofs.lemmas.Bool.{cases_lt, cases_eq}
use Rattle.std.proofs.lemmas.List.{length-append, length-map, get_or-map, get_or_past}
use Rattle.std.proofs.lemmas.List.Elements.{All-push}
use Rattle.std.proofs.lemmas.List.Quantifiers.{all_pairs_push}
use Rattle.gc_poly.specs.Generators.{Generators}
use Rattle.param_test.specs.Tables.{CandidateValue, degrees_of, AreRestrictions, AreCandidatesOver}
use Rattle.param_test.specs.Tuples.{AreByDegree}

pub candidates-more : (gs : List Generators) (cs new : List CandidateValue) (c : CandidateValue)
    → AreCandidatesOver gs cs → length cs < 4294967295 → c.degree ≤ 24
    → All (λ b. b.degree ≤ c.degree) cs → AreRestrictions gs c.degree c.images → new ≡ cs ++ c ∷ []
    → AreCandidatesOver gs new
candidates-more gs cs new c h few low order restrictions e = subst (AreCandidatesOver gs) (sym e) (record {
  few = let l = length-append cs (c ∷ []) in omega (arith, l);
  low = All-push (λ b. b.degree ≤ 24) cs c h.low low;
  order = all_pairs_push (λ b d. b.degree ≤ d.degree) cs c h.order (λ k d l. order k d l);
  restrictions = All-push (λ b. AreRestrictions gs b.degree b.images) cs c h.restrictions restrictions;
})

-- the degrees of the candidates
module _ (gs : List Generators) (cs : List CandidateValue) (h : AreCandidatesOver gs cs) (ds : List ℕ)
    (e : ds ≡ degrees_of cs) where
  pub degrees-length : length ds ≡ length cs
  degrees-length = ap length e ∙ length-map cs (λ c. c.degree)

  none : CandidateValue
  none = record { degree = 0; images = [] }

  degree-at : (i : ℕ) → i < length cs
      → get_or ds i 0 ≡ (get_or cs i (record { degree = 0; images = [] })).degree
  degree-at i l = ap (λ ds. get_or ds i 0) e
      ∙ get_or-map (λ c. c.degree) cs i (record { degree = 0; images = [] }) 0 l

  pub degrees-small : (i : ℕ) → slice_index ds i ≤ 24
  degrees-small i = go (cases_lt i (length ds))
    where
      go : (i < length ds) ⊎ (length ds ≤ i) → slice_index ds i ≤ 24
      go (inl l) = let k : i < length cs = omega (arith, l, degrees-length) in
          let d = degree-at i k in let b = h.low i (record { degree = 0; images = [] }) k in
          omega (arith, d, b)
      go (inr l) = let z = get_or_past ds i 0 l in omega (arith, z)

  pub degrees-ordered : AreByDegree ds
  degrees-ordered i j l b = go (cases_eq i j)
    where
      go : (i ≡ j) ⊎ (i ≢ j) → slice_index ds i ≤ slice_index ds j
      go (inl z) = let k = ap (slice_index ds) z in omega (arith, k)
      go (inr z) =
          let m : i < j = grind (arith, l, z) in
          let k : j < length cs = omega (arith, b, degrees-length) in
          let n : i < length cs = omega arith in
          let p = h.order i j (record { degree = 0; images = [] }) m k in
          omega (arith, degree-at i n, degree-at j k, p)

pub all-candidates : (cs : List CandidateValue) (ds t : List ℕ) → ds ≡ degrees_of cs
    → All (λ i. i < length ds) t → All (λ i. i < length cs) t
all-candidates cs ds t e h = subst (λ n. All (λ i. i < n) t) (ap length e ∙ length-map cs (λ c. c.degree)) h
