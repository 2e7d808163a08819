-- A row is written from its positions and coefficients.
use Rattle.std.proofs.Common.{◌≡◌, ◌≢◌, ℕ, zero, suc, ◌+◌, ◌<◌, ◌≤◌, List, [], ◌∷◌, ◌++◌, length, take, drop}
use Rattle.std.proofs.Common.{get_or, refl, ap, sym, ◌∙◌, subst, arith}
use Rattle.std.specs.Prelude.{slice_index, Vec}
use Rattle.std.specs.List.{AllByRecursion as Each}
use Rattle.param_test.specs.Tuples.{Ascends}
use Rattle.param_test.specs.Combinations.{places, coefficients, IsCombination}
use Rattle.param_test.specs.Odometers.{AreDigits, IsSparse, IsSpread, lists}
use Rattle.param_test.proofs.Lists.{length-snoc}
use Rattle.param_test.proofs.Dense.{places-zero, places-more, coefficients-zero, coefficients-more}

take-more : (k : ℕ) (a : List ℕ) → k < length a → take (suc k) a ≡ take k a ++ get_or a k 0 ∷ []
take-more k [] h = absurd (omega arith)
take-more zero (x ∷ a) h = refl
take-more (suc k) (x ∷ a) h = ap (λ z. x ∷ z) (take-more k a (omega arith))

take-all : (k : ℕ) (a : List ℕ) → length a ≤ k → take k a ≡ a
take-all zero [] h = refl
take-all (suc k) [] h = refl
take-all zero (x ∷ a) h = absurd (omega arith)
take-all (suc k) (x ∷ a) h = ap (λ z. x ∷ z) (take-all k a (omega arith))

-- the numbers behind the first k
later-skip : (i n k : ℕ) (a : List ℕ) → (k < length a → get_or a k 0 ≢ i) → Ascends i n (drop k a)
    → Ascends (suc i) n (drop k a)
later-skip i n zero [] h b = tt
later-skip i n (suc k) [] h b = tt
later-skip i n zero (x ∷ a) h b = (let e : x ≢ i = h (omega arith) in omega (arith, b.0), b.1, b.2)
later-skip i n (suc k) (x ∷ a) h b = later-skip i n k a (λ l. h (omega arith)) b

later-put : (i n k : ℕ) (a : List ℕ) → k < length a → get_or a k 0 ≡ i → Ascends i n (drop k a)
    → Ascends (suc i) n (drop (suc k) a)
later-put i n k [] h e b = absurd (omega arith)
later-put i n zero (x ∷ a) h e b = subst (λ z. Ascends (suc z) n a) e b.2
later-put i n (suc k) (x ∷ a) h e b = later-put i n k a (omega arith) e b

later-none : (n k : ℕ) (a : List ℕ) → Ascends n n (drop k a) → length a ≤ k
later-none n k [] b = omega arith
later-none n zero (x ∷ a) b = absurd (omega (arith, b.0, b.1))
later-none n (suc k) (x ∷ a) b = let r : length a ≤ k = later-none n k a b in omega arith

module _ (n : ℕ) (a c : List ℕ) where
  pub spread-skip : (i next : ℕ) (r : List ℕ) → (next < length a → get_or a next 0 ≢ i)
      → IsSpread n a c i next r → IsSpread n a c (i + 1) next (r ++ 0 ∷ [])
  spread-skip i next r h s = record {
    size = length-snoc r 0 ∙ ap (λ z. z + 1) s.size;
    within = s.within;
    placed = places-zero 0 r ∙ s.placed;
    valued = coefficients-zero r ∙ s.valued;
    later = let e : suc i ≡ i + 1 = omega arith in
        subst (λ z. Ascends z n (drop next a)) e (later-skip i n next a h s.later);
  }

  pub spread-put : (i next x : ℕ) (r : List ℕ) → length a ≡ length c + 1 → next < length a
      → get_or a next 0 ≡ i → 0 < x → x ≡ get_or (1 ∷ c) next 0 → IsSpread n a c i next r
      → IsSpread n a c (i + 1) (next + 1) (r ++ x ∷ [])
  spread-put i next x r m l e h q s = record {
    size = length-snoc r x ∙ ap (λ z. z + 1) s.size;
    within = omega arith;
    placed = let g : 0 + length r ≡ get_or a next 0 = omega (arith, s.size) in
        places-more 0 r x h ∙ ap (λ z. z ++ (0 + length r) ∷ []) s.placed ∙ ap (λ z. take next a ++ z ∷ []) g
        ∙ sym (take-more next a l) ∙ ap (λ z. take z a) f;
    valued = coefficients-more r x h ∙ ap (λ z. z ++ x ∷ []) s.valued
        ∙ ap (λ z. take next (1 ∷ c) ++ z ∷ []) q ∙ sym (take-more next (1 ∷ c) (omega arith))
        ∙ ap (λ z. take z (1 ∷ c)) f;
    later = let k : suc i ≡ i + 1 = omega arith in
        subst (λ z. Ascends z n (drop (next + 1) a)) k
        (subst (λ z. Ascends (suc i) n (drop z a)) f (later-put i n next a l e s.later));
  }
    where
      f : suc next ≡ next + 1
      f = omega arith

  below-all : (p : ℕ) → 0 < p → (r : List ℕ) → AreDigits p (coefficients r) → Each (λ x. x < p) r
  below-all p h [] d = tt
  below-all p h (zero ∷ r) d = (h, below-all p h r d)
  below-all p h (suc x ∷ r) d = (d.0.1, below-all p h r d.1)

  pub spread-places : (next : ℕ) (r : List ℕ) → IsSpread n a c n next r → places r ≡ a
  spread-places next r s = s.placed ∙ take-all next a (later-none n next a s.later)

  pub spread-coefficients : (next : ℕ) (r : List ℕ) → length a ≡ length c + 1 → IsSpread n a c n next r
      → coefficients r ≡ 1 ∷ c
  spread-coefficients next r m s =
      s.valued ∙ take-all next (1 ∷ c) (omega (arith, later-none n next a s.later))

  pub spread-combination : (p next : ℕ) (r : List ℕ) → 1 < p → IsSparse p n a c → IsSpread n a c n next r
      → IsCombination p n r
  spread-combination p next r h v s =
      let e : coefficients r ≡ 1 ∷ c = spread-coefficients next r v.same_length s in
      record {
        length_is = s.size;
        below = below-all p (omega arith) r (subst (λ z. AreDigits p z) (sym e) ((omega arith, h), v.digits));
        first_is_one = ap (λ z. slice_index z 0) e;
      }

pub positive-at : (c : List ℕ) (k : ℕ) → Each (λ x. 0 < x) c → k < length c → 0 < get_or c k 0
positive-at [] k e h = absurd (omega arith)
positive-at (x ∷ c) zero e h = e.0
positive-at (x ∷ c) (suc k) e h = positive-at c k e.1 (omega arith)

pub digits-positive : (p : ℕ) (c : List ℕ) → AreDigits p c → Each (λ x. 0 < x) c
digits-positive p [] d = tt
digits-positive p (x ∷ c) d = (d.0.0, digits-positive p c d.1)

pub lists-snoc : {Z : Type 0} (xs : List (Vec ℕ Z)) (v : Vec ℕ Z)
    → lists (xs ++ v ∷ []) ≡ lists xs ++ v.items ∷ []
lists-snoc [] v = refl
lists-snoc (x ∷ xs) v = ap (λ z. x.items ∷ z) (lists-snoc xs v)

pub length-lists : {Z : Type 0} (xs : List (Vec ℕ Z)) → length (lists xs) ≡ length xs
length-lists [] = refl
length-lists (x ∷ xs) = let e : length (lists xs) ≡ length xs = length-lists xs in omega arith
