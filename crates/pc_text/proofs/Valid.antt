-- What a text of the grammar stands for is a presentation.
use Rattle.std.proofs.Common.{◌≡◌, ◌⊎◌, inl, inr, ℕ, zero, suc, ◌-◌, ◌<◌, ◌≤◌, ◌==◌, ◌||◌, Bool, true, false}
use Rattle.std.proofs.Common.{cond, List, [], ◌∷◌, map, length, get_or, refl, sym, ◌∙◌, ap, subst, arith}
use Rattle.std.specs.Prelude.{Ok, None, Option, Some}
use Rattle.std.proofs.lemmas.Bool.Decides.{nat_tests}
use Rattle.std.specs.List.{AllByRecursion as Each}
use Rattle.std.proofs.lemmas.List.{length-map}
use Rattle.std.proofs.lemmas.List.Elements.{recursion_from_All}
use Rattle.limits.specs.declared.TheConstants.{MOST_GENERATORS}
use Rattle.power_commutator.specs.Presentations.{Presentation, IsPresentation, IsWord, range}
use Rattle.pc_group.proofs.MadeParts.{identity-replicate, identity-word}
use Rattle.pc_text.specs.declared.place.Place.{Place}
use Rattle.pc_text.specs.declared.place.Place.TheVariants.{Power, Commutator}
use Rattle.pc_text.specs.FromRelations.{word_given, commutators_given, with_relations}
use Rattle.pc_text.specs.Relations.{Relation, least, same_place}
use Rattle.pc_text.specs.Rules.{IsRelation}
use Rattle.pc_text.specs.Texts.{content, presentation_of, prime, read}
use Rattle.pc_text.proofs.Given.{get_range}
use Rattle.pc_text.proofs.Kept.{content_kept}
use Rattle.pc_text.proofs.PlaceLemmas.{same_is}
use Rattle.pc_text.proofs.Steps.{bind_ok, ok_same}

length-range : (j m : ℕ) → length (range j m) ≡ m
length-range j zero = refl
length-range j (suc m) = ap suc (length-range (suc j) m)

-- a listed prime is one of the four
pub prime_listed : (p : ℕ) → prime p ≡ Some p → (p ≡ 2) ⊎ (p ≡ 3) ⊎ (p ≡ 5) ⊎ (p ≡ 7)
prime_listed p h = at (p == 2) (p == 3) (p == 5) (p == 7) refl refl refl refl h
  where
    at : (a b c d : Bool) → (p == 2) ≡ a → (p == 3) ≡ b → (p == 5) ≡ c → (p == 7) ≡ d
        → cond (a || b || c || d) (Some p) None ≡ Some p → (p ≡ 2) ⊎ (p ≡ 3) ⊎ (p ≡ 5) ⊎ (p ≡ 7)
    at true b c d e f g k h = inl (grind (arith, nat_tests))
    at false true c d e f g k h = inr (inl (grind (arith, nat_tests)))
    at false false true d e f g k h = inr (inr (inl (grind (arith, nat_tests))))
    at false false false true e f g k h = inr (inr (inr (grind (arith, nat_tests))))
    at false false false false e f g k h = absurd (let no : ◌≡◌ {A = Option ℕ} None (Some p) = h in cc)

pub above_one : (p : ℕ) → (p ≡ 2) ⊎ (p ≡ 3) ⊎ (p ≡ 5) ⊎ (p ≡ 7) → 1 < p
above_one p (inl e) = omega arith
above_one p (inr (inl e)) = omega arith
above_one p (inr (inr (inl e))) = omega arith
above_one p (inr (inr (inr e))) = omega arith

module _ (p n : ℕ) (positive : 0 < p) where
  word_kept : (rs : List Relation) (q : Place) → Each (IsRelation p n) rs
      → IsWord p n (least q) (word_given n rs q)
  word_kept [] q h = subst (IsWord p n (least q)) (sym (identity-replicate n))
      (identity-word p n (least q) positive)
  word_kept (r ∷ rs) q h = at (same_place q r.place) refl (word_kept rs q h.1)
    where
      at : (b : Bool) → same_place q r.place ≡ b → IsWord p n (least q) (word_given n rs q)
          → IsWord p n (least q) (cond b r.word (word_given n rs q))
      at true e k = subst (λ place. IsWord p n (least place) r.word) (sym (same_is q r.place e)) h.0.word
      at false e k = k

  is_presentation : (rs : List Relation) → Each (IsRelation p n) rs → IsPresentation (with_relations p n rs)
  is_presentation rs h = record {
    power-count = length-map (range 1 n) (λ i. word_given n rs (Power i)) ∙ length-range 1 n;
    commutator-count = length-map (range 1 n) (commutators_given n rs) ∙ length-range 1 n;
    row-count = λ j low high. ap length (row j low high)
        ∙ length-map (range 1 (j - 1)) (λ i. word_given n rs (Commutator j i)) ∙ length-range 1 (j - 1);
    power = λ i low high. subst (IsWord p n i)
        (sym (get_range (λ i. word_given n rs (Power i)) [] 1 n i low (omega (arith, high))))
        (word_kept rs (Power i) h);
    commutator = λ j i low less high.
        subst (IsWord p n j)
        (sym (ap (λ ws. get_or ws (i - 1) []) (row j (omega (arith, low, less)) high)
        ∙ get_range (λ i. word_given n rs (Commutator j i)) [] 1 (j - 1) i low (omega (arith, low, less))))
        (word_kept rs (Commutator j i) h);
  }
    where
      row : (j : ℕ) → 0 < j → j ≤ n → get_or (map (commutators_given n rs) (range 1 n))
          (j - 1) [] ≡ commutators_given n rs j
      row j low high = get_range (commutators_given n rs) [] 1 n j low (omega (arith, high))

-- what a text is read as
pub record IsGiven (P : Presentation) : Type 0 where
  pub valid : IsPresentation P
  pub prime : prime P.prime ≡ Some P.prime
  pub few : P.gens ≤ MOST_GENERATORS

pub read_given : (text : List ℕ) (P : Presentation) → read text ≡ Ok P → IsGiven P
read_given text P h =
    let step = bind_ok (content text) (λ c. Ok (presentation_of c)) P h in
    let c = step.0 in
    let same = ok_same _ _ step.2 in
    let kept = content_kept text c step.1 in
    let above : 0 < c.prime = let l = above_one c.prime (prime_listed c.prime kept.prime) in
    omega (arith, l) in
    subst IsGiven same (record {
      valid = is_presentation c.prime c.gens above c.relations
          (recursion_from_All (IsRelation c.prime c.gens) c.relations kept.relations);
      prime = kept.prime;
      few = kept.few;
    })
