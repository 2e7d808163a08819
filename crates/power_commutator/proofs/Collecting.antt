-- The steps of a collection keep the product.
use Rattle.std.proofs.Common.{◌≡◌, ℕ, zero, suc, pred, refl, sym, ◌∙◌, ap, ap₂, subst, ◌<◌, ◌≤◌, arith, List}
use Rattle.std.proofs.Common.{[], ◌∷◌, ◌++◌}
use Rattle.power_commutator.specs.Presentations.{Presentation, IsWord, IsPresentation, pow, ascending}
use Rattle.power_commutator.specs.Presentations.{identity, generator, multiply, power_word, commutator_word}
use Rattle.power_commutator.specs.Claims.{GroupClaims}
use Rattle.power_commutator.specs.Collect.{product_of, copies, spell}
use Rattle.power_commutator.proofs.Tuples.{generator-tuple}
use Rattle.power_commutator.proofs.Lists.{list-generator}
use Rattle.power_commutator.proofs.Numbers.{list-is}

module _ (P : Presentation) (s : 1 < P.prime) (v : IsPresentation P) (C : GroupClaims P) where
  abbrev n : ℕ
  n = P.gens

  abbrev mul : List ℕ → List ℕ → List ℕ
  mul = multiply P

  abbrev g : ℕ → List ℕ
  g = generator 1 P.gens

  abbrev In : ℕ → Type 0
  In i = (0 < i) × i ≤ P.gens

  pub generator-word : (i : ℕ) → IsWord P.prime P.gens 0 (generator 1 P.gens i)
  generator-word i =
      let e : P.prime ≡ suc (pred P.prime) = omega (arith, s) in
      subst (λ p. IsWord p n 0 (g i)) (sym e)
      (subst (IsWord (suc (pred P.prime)) n 0) (list-generator (pred P.prime) (omega (arith, s)) 1 n i)
      (list-is (pred P.prime) n (generator-tuple (pred P.prime) 1 n i)))

  pub product-word : (is : List ℕ) → IsWord P.prime P.gens 0 (product_of P is)
  product-word [] = C.group.one-word
  product-word (i ∷ is) = C.group.closed (g i) (product_of P is) (generator-word i) (product-word is)

  pub product-append : (is js : List ℕ) → product_of P (is ++ js) ≡ multiply P (product_of P is)
      (product_of P js)
  product-append [] js = sym (C.group.one-mul (product_of P js) (product-word js))
  product-append (i ∷ is) js =
      ap (mul (g i)) (product-append is js)
      ∙ sym (C.group.mul-assoc (g i) (product_of P is) (product_of P js) (generator-word i) (product-word is)
      (product-word js))

  product-copies : (e i : ℕ) → product_of P (copies e i) ≡ pow mul (identity n) (g i) e
  product-copies zero i = refl
  product-copies (suc e) i = ap (mul (g i)) (product-copies e i)

  product-ascending : (i : ℕ) (es : List ℕ) → product_of P (spell i es) ≡ ascending mul (identity n) g i es
  product-ascending i [] = refl
  product-ascending i (e ∷ es) = product-append (copies e i) (spell (suc i) es)
      ∙ ap₂ mul (product-copies e i) (product-ascending (suc i) es)

  -- the product of the factors of a word is the word
  pub product-spell : (w : List ℕ) → IsWord P.prime P.gens 0 w → product_of P (spell 1 w) ≡ w
  product-spell w x = product-ascending 1 w ∙ C.normal w x

  -- a part may be replaced by another with the same product
  pub replace : (xs is js ys : List ℕ) → product_of P is ≡ product_of P js
      → product_of P (xs ++ (is ++ ys)) ≡ product_of P (xs ++ (js ++ ys))
  replace xs is js ys e =
      product-append xs (is ++ ys)
      ∙ ap (mul (product_of P xs)) (product-append is ys ∙ ap (λ t. mul t (product_of P ys)) e
      ∙ sym (product-append js ys))
      ∙ sym (product-append xs (js ++ ys))

  any-word : (j : ℕ) (w : List ℕ) → IsWord P.prime P.gens j w → IsWord P.prime P.gens 0 w
  any-word j w x = record { len = x.len; small = x.small; later = λ k h. absurd (omega (arith, h)) }

  -- g_j g_i becomes g_i g_j c_{j,i}
  pub swap-step : (xs ys : List ℕ) (j i : ℕ) → 0 < i → i < j → j ≤ P.gens
      → product_of P (xs ++ ((j ∷ i ∷ []) ++ ys)) ≡ product_of P
      (xs ++ ((i ∷ j ∷ spell 1 (commutator_word P j i)) ++ ys))
  swap-step xs ys j i h l k =
      replace xs (j ∷ i ∷ []) (i ∷ j ∷ spell 1 (commutator_word P j i)) ys
      (ap (mul (g j)) (C.group.mul-one (g i) (generator-word i)) ∙ C.relations.commutator j i h l k
      ∙ ap (λ t. mul (g i) (mul (g j) t))
      (sym (product-spell (commutator_word P j i)
      (any-word j (commutator_word P j i) (v.commutator j i h l k)))))

  -- g_i^p becomes w_i
  pub power-step : (xs ys : List ℕ) (i : ℕ) → 0 < i → i ≤ P.gens
      → product_of P (xs ++ (copies P.prime i ++ ys)) ≡ product_of P (xs ++ (spell 1 (power_word P i) ++ ys))
  power-step xs ys i h l =
      replace xs (copies P.prime i) (spell 1 (power_word P i)) ys
      (product-copies P.prime i ∙ C.relations.power i h l
      ∙ sym (product-spell (power_word P i) (any-word i (power_word P i) (v.power i h l))))

  -- a word times a generator
  pub product-last : (is : List ℕ) (i : ℕ)
      → product_of P (is ++ (i ∷ [])) ≡ multiply P (product_of P is) (generator 1 P.gens i)
  product-last is i = product-append is (i ∷ [])
      ∙ ap (mul (product_of P is)) (C.group.mul-one (g i) (generator-word i))
