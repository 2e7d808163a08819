-- A combination as a row, and by its positions and coefficients.
use Rattle.std.proofs.Common.{◌≡◌, ℕ, zero, suc, ◌+◌, ◌<◌, ◌≤◌, ◌⊎◌, inl, inr, List, [], ◌∷◌, ◌++◌, length}
use Rattle.std.proofs.Common.{drop, get_or, refl, ap, sym, ◌∙◌, subst, arith, length-append}
use Rattle.std.specs.Prelude.{slice_index}
use Rattle.std.specs.List.{AllByRecursion as Each}
use Rattle.std.proofs.lemmas.Bool.{cases_order}
use Rattle.param_test.specs.Firsts.{IsLess, AreFirst}
use Rattle.param_test.specs.Tuples.{Ascends}
use Rattle.param_test.specs.Combinations.{places_from, places, coefficients, IsCombination, IsBefore}
use Rattle.param_test.specs.Odometers.{AreDigits, run, Precedes, IsSparse, IsSuccessor, IsListed, rest}
use Rattle.param_test.proofs.Lists.{length-snoc}
use Rattle.param_test.proofs.Places.{compare-less}
use Rattle.param_test.proofs.Walking.{walked-start, walked-more, walked-first}
use Rattle.param_test.proofs.Odometer.{precedes-trans}

pub is-run : (a : List ℕ) (from : ℕ) → ((k : ℕ) → k < length a → get_or a k 0 ≡ from + k)
    → a ≡ run from (length a)
is-run [] from h = refl
is-run (x ∷ a) from h =
    let e : x ≡ from = omega (arith, h 0 (omega arith)) in
    let r : a ≡ run (suc from) (length a) =
    is-run a (suc from) (λ k l. omega (arith, h (suc k) (omega arith))) in
    cc

-- one more entry
pub places-zero : (i : ℕ) (r : List ℕ) → places_from i (r ++ 0 ∷ []) ≡ places_from i r
places-zero i [] = refl
places-zero i (zero ∷ r) = places-zero (suc i) r
places-zero i (suc x ∷ r) = ap (λ z. i ∷ z) (places-zero (suc i) r)

pub places-more : (i : ℕ) (r : List ℕ) (x : ℕ) → 0 < x → places_from i (r ++ x ∷ [])
    ≡ places_from i r ++ (i + length r) ∷ []
places-more i [] zero h = absurd (omega arith)
places-more i [] (suc x) h = let e : i ≡ i + 0 = omega arith in ap (λ z. z ∷ []) e
places-more i (zero ∷ r) x h = let e : suc i + length r ≡ i + suc (length r) = omega arith in
    places-more (suc i) r x h ∙ ap (λ z. places_from (suc i) r ++ z ∷ []) e
places-more i (suc y ∷ r) x h = let e : suc i + length r ≡ i + suc (length r) = omega arith in
    ap (λ z. i ∷ z) (places-more (suc i) r x h ∙ ap (λ z. places_from (suc i) r ++ z ∷ []) e)

pub coefficients-zero : (r : List ℕ) → coefficients (r ++ 0 ∷ []) ≡ coefficients r
coefficients-zero [] = refl
coefficients-zero (zero ∷ r) = coefficients-zero r
coefficients-zero (suc x ∷ r) = ap (λ z. suc x ∷ z) (coefficients-zero r)

pub coefficients-more : (r : List ℕ) (x : ℕ) → 0 < x → coefficients (r ++ x ∷ []) ≡ coefficients r ++ x ∷ []
coefficients-more [] zero h = absurd (omega arith)
coefficients-more [] (suc x) h = refl
coefficients-more (zero ∷ r) x h = coefficients-more r x h
coefficients-more (suc y ∷ r) x h = ap (λ z. suc y ∷ z) (coefficients-more r x h)

-- the positions ascend
pub places-ascend : (i n : ℕ) (r : List ℕ) → i + length r ≤ n → Ascends i n (places_from i r)
places-ascend i n [] h = tt
places-ascend i n (zero ∷ r) h = lower i n (places_from (suc i) r) (places-ascend (suc i) n r (omega arith))
  where
    lower : (i n : ℕ) (t : List ℕ) → Ascends (suc i) n t → Ascends i n t
    lower i n [] a = tt
    lower i n (x ∷ t) a = (omega (arith, a.0), a.1, a.2)
places-ascend i n (suc x ∷ r) h = (omega arith, omega arith, places-ascend (suc i) n r (omega arith))

pub same-number : (i : ℕ) (r : List ℕ) → length (places_from i r) ≡ length (coefficients r)
same-number i [] = refl
same-number i (zero ∷ r) = same-number (suc i) r
same-number i (suc x ∷ r) = let e : length (places_from (suc i) r) ≡ length (coefficients r) =
    same-number (suc i) r in omega arith

pub coefficients-digits : (p : ℕ) (r : List ℕ) → Each (λ x. x < p) r → AreDigits p (coefficients r)
coefficients-digits p [] h = tt
coefficients-digits p (zero ∷ r) h = coefficients-digits p r h.1
coefficients-digits p (suc x ∷ r) h = ((omega arith, h.0), coefficients-digits p r h.1)

-- a row is determined by its positions and coefficients
pub determined : (i : ℕ) (r s : List ℕ) → length r ≡ length s → places_from i r ≡ places_from i s
    → coefficients r ≡ coefficients s → r ≡ s
determined i [] [] l a c = refl
determined i [] (y ∷ s) l a c = absurd (omega arith)
determined i (x ∷ r) [] l a c = absurd (omega arith)
determined i (zero ∷ r) (zero ∷ s) l a c = let e : r ≡ s = determined (suc i) r s (omega arith) a c in cc
determined i (zero ∷ r) (suc y ∷ s) l a c =
    let h : Ascends (suc i) (suc i + length r) (i ∷ places_from (suc i) s) =
    subst (λ z. Ascends (suc i) (suc i + length r) z) a
    (places-ascend (suc i) (suc i + length r) r (omega arith)) in
    absurd (omega (arith, h.0))
determined i (suc x ∷ r) (zero ∷ s) l a c =
    let h : Ascends (suc i) (suc i + length s) (i ∷ places_from (suc i) r) =
    subst (λ z. Ascends (suc i) (suc i + length s) z) (sym a)
    (places-ascend (suc i) (suc i + length s) s (omega arith)) in
    absurd (omega (arith, h.0))
determined i (suc x ∷ r) (suc y ∷ s) l a c =
    let b : places_from (suc i) r ≡ places_from (suc i) s = cc in
    let d : coefficients r ≡ coefficients s = cc in
    let e : r ≡ s = determined (suc i) r s (omega arith) b d in
    let f : suc x ≡ suc y = cc in
    cc

-- a list with 1 in front
pub first-one : (c : List ℕ) → slice_index c 0 ≡ 1 → c ≡ 1 ∷ drop 1 c
first-one [] h = absurd (omega arith)
first-one (x ∷ c) h = ap (λ z. z ∷ c) h

module _ (p n : ℕ) where
  abbrev pub In : List ℕ → Type 0
  In y = IsCombination p n y

  pub head-one : (y : List ℕ) → In y → coefficients y ≡ 1 ∷ rest y
  head-one y m = first-one (coefficients y) m.first_is_one

  pub sparse-of : (y : List ℕ) → In y → IsSparse p n (places y) (rest y)
  sparse-of y m =
      let e : coefficients y ≡ 1 ∷ rest y = head-one y m in
      let l : length (places y) ≡ length (coefficients y) = same-number 0 y in
      let k : length (coefficients y) ≡ suc (length (rest y)) = ap length e in
      let d : AreDigits p (1 ∷ rest y) = subst (λ z. AreDigits p z) e (coefficients-digits p y m.below) in
      record {
        some = omega arith;
        ascends = places-ascend 0 n y (omega (arith, m.length_is));
        digits = d.1;
        same_length = omega arith;
      }

  pub to-before : (x y : List ℕ) → In x → In y → Precedes (places x) (rest x) (places y) (rest y)
      → IsBefore x y
  to-before x y m k (inl h) = inl h
  to-before x y m k (inr h) = inr (
    h.0,
    elim h.1 as
        (λ _. IsLess (places x) (places y)
        ⊎ ((places x ≡ places y) × IsLess (coefficients x) (coefficients y))) [
          | inl g ↦ inl g
          | inr g ↦
              inr (
                g.0,
                subst (λ z. IsLess z (coefficients y)) (sym (head-one x m))
                    (subst (λ z. IsLess (1 ∷ rest x) z) (sym (head-one y k)) (inr (refl, g.1))),
              )
        ],
  )

  same-row : (t y : List ℕ) (a c : List ℕ) → In t → In y → places t ≡ a → coefficients t ≡ 1 ∷ c
      → places y ≡ a → rest y ≡ c → y ≡ t
  same-row t y a c m k e f g h =
      determined 0 y t (k.length_is ∙ sym m.length_is) (g ∙ sym e) (head-one y k ∙ ap (λ z. 1 ∷ z) h ∙ sym f)

  rest-is : (t c : List ℕ) → coefficients t ≡ 1 ∷ c → rest t ≡ c
  rest-is t c f = ap (drop 1) f

  -- one more row is listed
  pub listed-more : (tried : List (List ℕ)) (a c b d t : List ℕ) → In t → places t ≡ a
      → coefficients t ≡ 1 ∷ c → IsSuccessor p n a c b d
      → IsListed p n tried a c → IsListed p n (tried ++ t ∷ []) b d
  listed-more tried a c b d t m e f s w = record {
    sparse = s.sparse;
    walked = walked-more In IsBefore (λ _. ⊥) (λ y. In y × Precedes (places y) (rest y) a c)
        (λ y. In y × Precedes (places y) (rest y) b d) tried t m (λ h. h)
        (λ x h. to-before x t h.0 m (at-t x h.1))
        (λ y h. (h.0, precedes-trans (places y) (rest y) a c b d h.1 s.later)) (
          m,
          subst (λ z. Precedes z (rest t) b d) (sym e)
              (subst (λ z. Precedes a z b d) (sym (rest-is t c f)) s.later),
        )
        (λ y k h. elim (s.between (places y) (rest y) (sparse-of y k) h.1) as
        (λ _. (In y × Precedes (places y) (rest y) a c) ⊎ (y ≡ t))
        [ inl g ↦ inl (k, g) | inr g ↦ inr (same-row t y a c m k e f g.0 g.1) ])
        w.walked;
  }
    where
      at-t : (x : List ℕ) → Precedes (places x) (rest x) a c
          → Precedes (places x) (rest x) (places t) (rest t)
      at-t x h =
          subst (λ z. Precedes (places x) (rest x) z (rest t)) (sym e)
          (subst (λ z. Precedes (places x) (rest x) a z) (sym (rest-is t c f)) h)

  precedes-compare : (a c e f : List ℕ) → IsSparse p n a c → IsSparse p n e f
      → Precedes e f a c ⊎ (((e ≡ a) × (f ≡ c)) ⊎ Precedes a c e f)
  precedes-compare a c e f s v =
      elim (cases_order (length e) (length a)) as (λ _. R) [
        | inl l ↦ elim (order e a l) as (λ _. R) [
          | inl h ↦ inl (inr (l, inl h))
          | inr h ↦ elim h as (λ _. R) [
            | inl g ↦ inr (inr (inr (sym l, inl g)))
            | inr g ↦ elim (order f c (omega (arith, s.same_length, v.same_length))) as (λ _. R) [
              | inl k ↦ inl (inr (l, inr (g, k)))
              | inr k ↦
                  elim k as (λ _. R) [
                    | inl i ↦ inr (inr (inr (sym l, inr (sym g, i))))
                    | inr i ↦
                        inr (inl (g, i))
                  ]
            ]
          ]
        ]
        | inr h ↦ elim h as (λ _. R) [ inl g ↦ inl (inl g) | inr g ↦ inr (inr (inl g)) ]
      ]
    where
      R : Type 0
      R = Precedes e f a c ⊎ (((e ≡ a) × (f ≡ c)) ⊎ Precedes a c e f)

      same : (x y w : List ℕ) → x ≡ y ++ w → length x ≡ length y → x ≡ y
      same x y [] q l = q ∙ nil y
        where
          nil : (z : List ℕ) → z ++ [] ≡ z
          nil [] = refl
          nil (u ∷ z) = ap (λ t. u ∷ t) (nil z)
      same x y (u ∷ w) q l =
          absurd (let g : length x ≡ length y + suc (length w) = ap length q ∙ length-append y (u ∷ w) in
          omega arith)

      order : (x y : List ℕ) → length x ≡ length y → IsLess x y ⊎ (IsLess y x ⊎ (x ≡ y))
      order x y l = elim (compare-less x y (omega arith)) as (λ _. IsLess x y ⊎ (IsLess y x ⊎ (x ≡ y))) [
        | inl h ↦ inl h
        | inr h ↦
            elim h as (λ _. IsLess x y ⊎ (IsLess y x ⊎ (x ≡ y)))
            [ inl g ↦ inr (inl g) | inr g ↦ inr (inr (same x y g.0 g.1 l)) ]
      ]

  -- enough are listed
  pub listed-enough : (tried : List (List ℕ)) (a c : List ℕ) (k : ℕ) → length tried ≡ k
      → IsListed p n tried a c → AreFirst In IsBefore k tried
  listed-enough tried a c k l w =
      walked-first In IsBefore (λ _. ⊥) (λ y. In y × Precedes (places y) (rest y) a c) tried k (omega arith)
      go w.walked
    where
      go : (y : List ℕ) → In y → (In y × Precedes (places y) (rest y) a c)
          ⊎ ((length tried ≡ k) × ((x : List ℕ) → In x × Precedes (places x) (rest x) a c → IsBefore x y))
      go y m = elim (precedes-compare a c (places y) (rest y) w.sparse (sparse-of y m)) as
          (λ _. (In y × Precedes (places y) (rest y) a c)
          ⊎ ((length tried ≡ k) × ((x : List ℕ) → In x × Precedes (places x) (rest x) a c → IsBefore x y))) [
            | inl h ↦ inl (m, h)
            | inr h ↦ inr (
              l,
              λ x q. to-before x y q.0 m (elim h as (λ _. Precedes (places x) (rest x) (places y) (rest y)) [
                | inl g ↦
                    subst (λ z. Precedes (places x) (rest x) z (rest y)) (sym g.0)
                    (subst (λ z. Precedes (places x) (rest x) a z) (sym g.1) q.1)
                | inr g ↦ precedes-trans (places x) (rest x) a c (places y) (rest y) q.1 g
              ]),
            )
          ]

  -- the last is listed
  pub listed-last : (tried : List (List ℕ)) (a c t : List ℕ) (k : ℕ) → In t → places t ≡ a
      → coefficients t ≡ 1 ∷ c → length tried + 1 ≤ k
      → ((e f : List ℕ) → IsSparse p n e f → Precedes e f a c ⊎ ((e ≡ a) × (f ≡ c)))
      → IsListed p n tried a c → AreFirst In IsBefore k (tried ++ t ∷ [])
  listed-last tried a c t k m e f l g w =
      walked-first In IsBefore (λ _. ⊥) In (tried ++ t ∷ []) k (omega (arith, length-snoc tried t))
      (λ y h. inl h)
      (walked-more In IsBefore (λ _. ⊥) (λ y. In y × Precedes (places y) (rest y) a c) In tried t m (λ h. h)
      (λ x h. to-before x t h.0 m (at-t x h.1)) (λ y h. h.0) m
      (λ y h _. elim (g (places y) (rest y) (sparse-of y h)) as
      (λ _. (In y × Precedes (places y) (rest y) a c) ⊎ (y ≡ t))
      [ inl i ↦ inl (h, i) | inr i ↦ inr (same-row t y a c m h e f i.0 i.1) ])
      w.walked)
    where
      at-t : (x : List ℕ) → Precedes (places x) (rest x) a c
          → Precedes (places x) (rest x) (places t) (rest t)
      at-t x h =
          subst (λ z. Precedes (places x) (rest x) z (rest t)) (sym e)
          (subst (λ z. Precedes (places x) (rest x) a z) (sym (rest-is t c f)) h)

  -- over no monomials there is none
  pub none-listed : n ≡ 0 → (k : ℕ) → AreFirst In IsBefore k []
  none-listed z k =
      record {
        members = tt;
        ascending = tt;
        at_most = omega arith;
        others =
            λ y m. absurd (no (places y) (sparse-of y m));
      }
    where
      no : (a : List ℕ) {c : List ℕ} → IsSparse p n a c → ⊥
      no [] s = omega (arith, s.some)
      no (x ∷ a) s = omega (arith, s.ascends)

  -- one term at the first place comes first
  pub listed-start : 0 < n → 0 < p → IsListed p n [] (0 ∷ []) []
  listed-start h q = record {
    sparse = record { some = omega arith; ascends = (omega arith, h, tt); digits = tt; same_length = refl };
    walked = walked-start In IsBefore (λ _. ⊥) (λ y. In y × Precedes (places y) (rest y) (0 ∷ []) [])
        (λ y m g. no y m g.1);
  }
    where
      first : (a : List ℕ) → IsLess a (0 ∷ []) → ⊥
      first [] l = l
      first (x ∷ a) (inl l) = omega arith
      first (x ∷ []) (inr l) = l.1
      first (x ∷ y ∷ a) (inr l) = l.1

      behind : (a : List ℕ) → IsLess a [] → ⊥
      behind [] l = l
      behind (x ∷ a) l = l

      no : (y : List ℕ) → In y → Precedes (places y) (rest y) (0 ∷ []) [] → ⊥
      no y m (inl l) = omega (arith, (sparse-of y m).some)
      no y m (inr l) = elim l.1 as (λ _. ⊥) [ inl g ↦ first (places y) g | inr g ↦ behind (rest y) g.1 ]
