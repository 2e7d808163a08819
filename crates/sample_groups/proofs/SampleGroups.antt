-- The factors of samples keep the rules for words, and so do samples, which have at most 6 generators.
use Rattle.std.proofs.Common.{◌≡◌, ◌∙◌, ◌⊎◌, inl, inr, ℕ, zero, suc, ◌+◌, ◌-◌, ◌^◌, ◌%◌, ◌<◌, ◌≤◌, Bool, true}
use Rattle.std.proofs.Common.{false, cond, leb, List, [], ◌∷◌, ◌++◌, length, get_or, drop, decimal, refl, sym}
use Rattle.std.proofs.Common.{ap, subst, arith}
use Rattle.std.proofs.lemmas.Bool.Decides.{nat_tests}
use Rattle.std.proofs.lemmas.List.Elements.{All-cons, All-nil}
use Rattle.std.proofs.lemmas.List.{drop_more}
use Rattle.std.proofs.lemmas.Nat.{pow_below}
use Rattle.power_commutator.specs.Presentations.{Presentation, IsPresentation, IsWord, identity}
use Rattle.power_commutator.proofs.Cyclic.{less-or}
use Rattle.pc_group.specs.Parts.{elementary_abelian, with_power}
use Rattle.pc_group.proofs.MadeParts.{elementary-valid, with_power-valid, with_commutator-valid}
use Rattle.pc_text.specs.Texts.{prime}
use Rattle.pc_text.proofs.Valid.{IsGiven}
use Rattle.std.specs.declared.option.Option.TheVariants.{Some}
use Rattle.sample_groups.specs.Products.{direct_product}
use Rattle.sample_groups.specs.Samples.{IsSmall, four, eight, dihedral, quaternion, factor_of, with_factor}
use Rattle.sample_groups.specs.Samples.{with_digits, sample}
use Rattle.sample_groups.proofs.ProductWords.{product_valid, word_after, word_before}

one_word : IsWord 2 1 0 (1 ∷ [])
one_word = record {
  len = refl;
  small = All-cons (λ e. e < 2) 1 [] (omega arith) (All-nil (λ e. e < 2));
  later = λ k a. absurd (omega (arith, a));
}

-- the word of a generator with j before it and m after it
pub generator_word : (j m : ℕ) → IsWord 2 (j + (1 + m)) (j + 0) (identity j ++ (1 ∷ [] ++ identity m))
generator_word j m = word_after 2 (1 + m) 0 j (1 ∷ [] ++ identity m) (omega arith)
    (word_before 2 1 0 m (1 ∷ []) (omega arith) one_word)

-- a word of later generators alone is one of generators after an earlier one
earlier : (n i j : ℕ) (w : List ℕ) → i ≤ j → IsWord 2 n j w → IsWord 2 n i w
earlier n i j w l W = record { len = W.len; small = W.small; later = λ k a. W.later k (omega (arith, a, l)) }

-- the words of the factors
pub last_of_two : IsWord 2 2 1 (0 ∷ 1 ∷ [])
last_of_two = generator_word 1 0

pub second_of_three : IsWord 2 3 1 (0 ∷ 1 ∷ 0 ∷ [])
second_of_three = generator_word 1 1

pub last_of_three : IsWord 2 3 2 (0 ∷ 0 ∷ 1 ∷ [])
last_of_three = generator_word 2 0

pub last_after_first : IsWord 2 3 1 (0 ∷ 0 ∷ 1 ∷ [])
last_after_first = earlier 3 1 2 (0 ∷ 0 ∷ 1 ∷ []) (omega arith) last_of_three

-- ---- the factors

empty_valid : (n : ℕ) → IsPresentation (elementary_abelian 2 n)
empty_valid n = elementary-valid 2 n (omega arith)

four_valid : IsPresentation four
four_valid = with_power-valid (elementary_abelian 2 2) (empty_valid 2) 1 (0 ∷ 1 ∷ []) (omega arith)
    (omega arith) last_of_two

eight_valid : IsPresentation eight
eight_valid =
    with_power-valid (with_power (elementary_abelian 2 3) 1 (0 ∷ 1 ∷ 0 ∷ []))
    (with_power-valid (elementary_abelian 2 3) (empty_valid 3) 1 (0 ∷ 1 ∷ 0 ∷ []) (omega arith) (omega arith)
    second_of_three) 2 (0 ∷ 0 ∷ 1 ∷ []) (omega arith) (omega arith) last_of_three

dihedral_valid : IsPresentation dihedral
dihedral_valid = with_commutator-valid (elementary_abelian 2 3) (empty_valid 3) 2 1 (0 ∷ 0 ∷ 1 ∷ [])
    (omega arith) (omega arith) (omega arith) last_of_three

quaternion_valid : IsPresentation quaternion
quaternion_valid =
    with_power-valid (with_power dihedral 1 (0 ∷ 0 ∷ 1 ∷ []))
    (with_power-valid dihedral dihedral_valid 1 (0 ∷ 0 ∷ 1 ∷ []) (omega arith) (omega arith) last_after_first)
    2 (0 ∷ 0 ∷ 1 ∷ []) (omega arith) (omega arith) last_of_three

pub factor_small : (d : ℕ) → IsSmall 3 (factor_of d)
factor_small zero = record { valid = empty_valid 1; prime = refl; few = omega arith }
factor_small (suc zero) = record { valid = four_valid; prime = refl; few = omega arith }
factor_small (suc (suc zero)) = record { valid = eight_valid; prime = refl; few = omega arith }
factor_small (suc (suc (suc zero))) = record { valid = dihedral_valid; prime = refl; few = omega arith }
factor_small (suc (suc (suc (suc d)))) =
    record { valid = quaternion_valid; prime = refl; few = omega arith }

-- ---- the samples

few_of_order : (n : ℕ) → 2 ^ n ≤ 64 → n ≤ 6
few_of_order n h = at (less-or 6 n)
  where
    at : (6 < n) ⊎ (n ≤ 6) → n ≤ 6
    at (inl l) = let more = pow_below 6 n l in absurd (omega (arith, more, h))
    at (inr l) = l

pub with_factor_small : (P F : Presentation) → IsSmall 6 P → IsSmall 3 F → IsSmall 6 (with_factor P F)
with_factor_small P F p f = at (leb (2 ^ (P.gens + F.gens)) 64) refl
  where
    at : (b : Bool) → leb (2 ^ (P.gens + F.gens)) 64 ≡ b → IsSmall 6 (cond b (direct_product P F) P)
    at true e = record {
      valid = let q = p.prime in product_valid P F p.valid f.valid (omega (arith, q)) (p.prime ∙ sym f.prime);
      prime = p.prime;
      few = few_of_order (P.gens + F.gens) (grind (arith, nat_tests));
    }
    at false e = p

with_digits_small : (P : Presentation) (digits : List ℕ) → IsSmall 6 P → IsSmall 6 (with_digits P digits)
with_digits_small P [] p = p
with_digits_small P (b ∷ digits) p =
    let F = factor_of ((b - 48) % 5) in
    with_digits_small (with_factor P F) digits (with_factor_small P F p (factor_small ((b - 48) % 5)))

pub nothing_small : IsSmall 6 (elementary_abelian 2 0)
nothing_small = record { valid = empty_valid 0; prime = refl; few = omega arith }

sample_small : (k : ℕ) → IsSmall 6 (sample k)
sample_small k = with_digits_small (elementary_abelian 2 0) (decimal k) nothing_small

pub sample_given : (k : ℕ) → IsGiven (sample k)
sample_given k =
    let s = sample_small k in
    let few = s.few in
    record {
      valid = s.valid;
      prime = subst (λ p. prime p ≡ Some p) (sym s.prime) refl;
      few = omega (arith, few);
    }

-- one more digit is read
pub next_digit : (digits : List ℕ) (i d : ℕ) (P F next Q : Presentation) → i < length digits → IsSmall 6 P
    → with_digits P (drop i digits) ≡ Q → d ≡ get_or digits i 0 - 48 → F ≡ factor_of (d % 5)
    → next ≡ with_factor P F → IsSmall 6 next × (with_digits next (drop (i + 1) digits) ≡ Q)
next_digit digits i d P F next Q within small so_far is factor made =
    let new : next ≡ with_factor P (factor_of ((get_or digits i 0 - 48) % 5)) =
    made ∙ ap (with_factor P) (factor ∙ ap (λ d. factor_of (d % 5)) is) in (
      subst (IsSmall 6) (sym made)
          (with_factor_small P F small (subst (IsSmall 3) (sym factor) (factor_small (d % 5)))),
      ap (λ P. with_digits P (drop (i + 1) digits)) new
          ∙ sym (ap (with_digits P) (drop_more digits i 0 within)) ∙ so_far,
    )
