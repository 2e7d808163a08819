-- The monomials that the enumeration still has to find.
use Rattle.std.proofs.Common.{◌≡◌, ◌≢◌, ℕ, zero, suc, ◌+◌, ◌-◌, ◌*◌, ◌<◌, ◌≤◌, false, cond, leb, List, []}
use Rattle.std.proofs.Common.{◌∷◌, ◌++◌, map, length, take, drop, get_or, append_assoc, arith, ap, sym, ◌∙◌}
use Rattle.std.proofs.Common.{refl}
use Rattle.std.proofs.lemmas.Bool.Decides.{nat_tests}
use Rattle.std.proofs.lemmas.List.{append-nil, map-append}
use Rattle.graded_polynomials.specs.Monomials.{is_exterior, exponent, IsTrimmed}
use Rattle.graded_polynomials.proofs.Exponents.{same-exponents}
use Rattle.graded_polynomials.specs.AllMonomials.{with_first, all_monomials}
use Rattle.graded_polynomials.proofs.AllMonomials.{leb-of, leb-not}

-- those with an exponent of the first generator below n
abbrev pub remaining : (ℕ → List (List ℕ)) → ℕ → ℕ → ℕ → List (List ℕ)
remaining others g d zero = []
remaining others g d (suc e) = with_first others g d e

abbrev pub behind : List ℕ → List (List ℕ) → List (List ℕ)
behind chosen ms = map (λ m. chosen ++ m) ms

remaining-fits : (others : ℕ → List (List ℕ)) (g d e : ℕ) → e * g ≤ d
    → remaining others g d (suc e) ≡ map (λ m. e ∷ m) (others (d - e * g)) ++ remaining others g d e
remaining-fits others g d zero l = ap (λ r. map (λ m. 0 ∷ m) (others r))
    (let k : d ≡ d - 0 * g = omega arith in k) ∙ sym (append-nil _)
remaining-fits others g d (suc e) l = rw (leb-of (suc e * g) d l) refl

remaining-not : (others : ℕ → List (List ℕ)) (g d e : ℕ) → d < e * g
    → remaining others g d (suc e) ≡ remaining others g d e
remaining-not others g d zero l = absurd (omega arith)
remaining-not others g d (suc e) l = rw (leb-not (suc e * g) d l) refl

behind-more : (chosen : List ℕ) (e : ℕ) (ms : List (List ℕ))
    → behind (chosen ++ e ∷ []) ms ≡ behind chosen (map (λ m. e ∷ m) ms)
behind-more chosen e [] = refl
behind-more chosen e (m ∷ ms) = ap (λ n. n ∷ behind (chosen ++ e ∷ []) ms) (append_assoc chosen (e ∷ []) m)
    ∙ ap (λ ns. (chosen ++ e ∷ m) ∷ ns) (behind-more chosen e ms)

pub all-zero : (q : ℕ) (ds : List ℕ) → all_monomials q ds 0 ≡ [] ∷ []
all-zero q [] = refl
all-zero q (g ∷ ds) = refl

-- one more exponent of the generator is taken, or does not fit
pub taken : (others : ℕ → List (List ℕ)) (g d e n : ℕ) (chosen had : List ℕ) (found new all : List (List ℕ))
    → n ≡ suc e → e * g ≤ d → had ≡ chosen
    → found ++ behind chosen (remaining others g d n) ≡ all
    → new ≡ found ++ behind (had ++ e ∷ []) (others (d - e * g))
    → new ++ behind chosen (remaining others g d e) ≡ all
taken others g d e n chosen had found new all s l c h k =
    rw (k, c) (append_assoc found _ _ ∙ ap (λ ms. found ++ ms)
    (ap (λ ms. ms ++ behind chosen (remaining others g d e)) (behind-more chosen e (others (d - e * g)))
    ∙ sym (map-append (λ m. chosen ++ m) (map (λ m. e ∷ m) (others (d - e * g))) (remaining others g d e))
    ∙ ap (behind chosen) (sym (remaining-fits others g d e l))))
    ∙ ap (λ n. found ++ behind chosen (remaining others g d n)) (sym s) ∙ h

pub left-out : (others : ℕ → List (List ℕ)) (g d e n : ℕ) (chosen : List ℕ) (found all : List (List ℕ))
    → n ≡ suc e → d < e * g
    → found ++ behind chosen (remaining others g d n) ≡ all
    → found ++ behind chosen (remaining others g d e) ≡ all
left-out others g d e n chosen found all s l h =
    ap (λ ms. found ++ behind chosen ms) (sym (ap (remaining others g d) s ∙ remaining-not others g d e l))
    ∙ h

drop-at : (ds : List ℕ) (i : ℕ) → i < length ds → drop i ds ≡ get_or ds i 0 ∷ drop (suc i) ds
drop-at [] i l = absurd (omega arith)
drop-at (d ∷ ds) zero l = refl
drop-at (d ∷ ds) (suc i) l = drop-at ds i (omega arith)

-- at first all remain
pub all-remain : (q : ℕ) (ds : List ℕ) (i g d n j : ℕ) → i < length ds → g ≡ get_or ds i 0 → d ≢ 0
    → n ≡ cond (is_exterior q (get_or ds i 0)) 1 d → j ≡ suc i
    → remaining (λ r. all_monomials q (drop j ds) r) g d (n + 1) ≡ all_monomials q (drop i ds) d
all-remain q ds i g zero n j l e z f s = absurd (z refl)
all-remain q ds i g (suc d) n j l e z f s =
    rw (drop-at ds i l, e, f, s) (ap (remaining (λ r. all_monomials q (drop (suc i) ds) r) (get_or ds i 0)
    (suc d)) (let k : cond (is_exterior q (get_or ds i 0)) 1 (suc d) + 1 ≡ suc
    (cond (is_exterior q (get_or ds i 0)) 1 (suc d)) = omega arith in k))

pub none-left : (q : ℕ) (ds : List ℕ) (i d : ℕ) → i ≡ length ds → d ≢ 0 → all_monomials q (drop i ds) d ≡ []
none-left q ds i zero e z = absurd (z refl)
none-left q ds i (suc d) e z = rw (e, drop-end ds) refl
  where
    drop-end : (ds : List ℕ) → drop (length ds) ds ≡ []
    drop-end [] = refl
    drop-end (d ∷ ds) = drop-end ds

pub trimmed-last : (xs : List ℕ) (e : ℕ) → e ≢ 0 → IsTrimmed (xs ++ e ∷ [])
trimmed-last [] e z = ((λ _. z), tt)
trimmed-last (x ∷ xs) e z = ((λ h. absurd (some xs h)), trimmed-last xs e z)
  where
    some : (xs : List ℕ) → xs ++ e ∷ [] ≡ [] → ⊥
    some [] h = cc
    some (x ∷ xs) h = cc

pub last-out : (xs : List ℕ) (e n : ℕ) → n ≡ length (xs ++ e ∷ []) - 1 → take n (xs ++ e ∷ []) ≡ xs
last-out xs e n h = ap (λ n. take n (xs ++ e ∷ [])) (h ∙ long xs) ∙ front xs
  where
    long : (xs : List ℕ) → length (xs ++ e ∷ []) - 1 ≡ length xs
    long [] = refl
    long (x ∷ xs) = omega (arith, more xs)
      where
        more : (xs : List ℕ) → length (xs ++ e ∷ []) ≡ suc (length xs)
        more [] = refl
        more (x ∷ xs) = ap suc (more xs)

    front : (xs : List ℕ) → take (length xs) (xs ++ e ∷ []) ≡ xs
    front [] = refl
    front (x ∷ xs) = ap (λ ys. x ∷ ys) (front xs)

-- the chosen exponents are a monomial
pub found-one : (q : ℕ) (ds : List ℕ) (m chosen : List ℕ) (found : List (List ℕ)) → IsTrimmed m
    → ((i : ℕ) → exponent m i ≡ exponent chosen i) → IsTrimmed chosen
    → found ++ m ∷ [] ≡ found ++ behind chosen (all_monomials q ds 0)
found-one q ds m chosen found t e k =
    ap (λ m. found ++ m ∷ []) (same-exponents m chosen t k e ∙ sym (append-nil chosen))
    ∙ ap (λ ms. found ++ behind chosen ms) (sym (all-zero q ds))

pub behind-none : (ms : List (List ℕ)) → behind [] ms ≡ ms
behind-none [] = refl
behind-none (m ∷ ms) = ap (λ ns. m ∷ ns) (behind-none ms)

pub shifted : (done new rest later all : List (List ℕ)) (m : List ℕ) → done ++ rest ≡ all → rest ≡ m ∷ later
    → new ≡ done ++ m ∷ [] → new ++ later ≡ all
shifted done new rest later all m h e k = rw k (append_assoc done (m ∷ []) later)
    ∙ sym (ap (λ ms. done ++ ms) e) ∙ h

pub all-to-come : (list rest found had all : List (List ℕ)) (chosen : List ℕ) → list ≡ [] → rest ≡ found
    → found ≡ had ++ behind chosen all → had ≡ [] → chosen ≡ [] → list ++ rest ≡ all
all-to-come list rest found had all chosen a b c d e = rw (a, b, c, d, e) (behind-none all)

pub nothing-left : (ms : List (List ℕ)) → length ms ≡ 0 → [] ≡ ms
nothing-left [] e = refl
nothing-left (m ∷ ms) e = absurd (omega (arith, e))
