-- The table of layer 1 is that of the group of the presentation, in which the relations hold.
use Rattle.std.proofs.Common.{◌≡◌, ℕ, zero, suc, refl, sym, ◌∙◌, ap, ap₂, subst, subst₂, ◌*◌, ◌^◌, ◌<◌, ◌≤◌}
use Rattle.std.proofs.Common.{arith, List}
use Rattle.group_table.specs.Groups.{IsGroup}
use Rattle.group_table.specs.Tables.{GroupTable, IsTable, IsGroupTable, order, order_is, product, product_is}
use Rattle.group_table.specs.Tables.{power}
use Rattle.group_table.proofs.Laws.{commutes-power}
use Rattle.power_commutator.specs.Presentations.{Presentation as Presented, IsWord, pow, identity, generator}
use Rattle.power_commutator.specs.Presentations.{multiply, number, commutator_word}
use Rattle.power_commutator.specs.Claims.{GroupClaims, table}
use Rattle.power_commutator.proofs.Program.{first-table}
use Rattle.power_commutator.proofs.Result.{claims}
use Rattle.power_commutator.proofs.Collecting.{generator-word}
use Rattle.pc_group.specs.Tables.{entry_of}
use Rattle.pc_group.specs.Squares.{times, IsTableOf}
use Rattle.pc_group.specs.declared.square.Square.{Square}
use Rattle.pc_group.specs.Consistency.{IsConsistent, GivesGroup}
use Rattle.pc_group.specs.GroupOf.{IsCommutator, IsGroupOf, HasPowers, HasCommutators}

-- a product that agrees with that of a group
pub group-same : (n : ℕ) (f g : ℕ → ℕ → ℕ) → ((a b : ℕ) → a < n → b < n → g a b ≡ f a b) → IsGroup n f
    → IsGroup n g
group-same n f g e F = record {
  closed = λ a b h k. subst (λ t. t < n) (sym (e a b h k)) (F.closed a b h k);
  some = F.some;
  one-mul = λ a h. e 0 a F.some h ∙ F.one-mul a h;
  mul-one = λ a h. e a 0 h F.some ∙ F.mul-one a h;
  mul-assoc = λ a b c h k l.
      ap (λ t. g t c) (e a b h k) ∙ e (f a b) c (F.closed a b h k) l ∙ F.mul-assoc a b c h k l
      ∙ sym (ap (g a) (e b c k l) ∙ e a (f b c) h (F.closed b c k l));
  inverse = λ a h. let i = F.inverse a h in (i.0, i.1, e a i.0 h i.1 ∙ i.2, e i.0 a i.1 h ∙ i.3);
}

module _ (P : Presented) (K : IsConsistent P) (p n : ℕ) (S : Square)
    (a : p ≡ P.prime) (b : n ≡ P.gens) (T : IsTableOf P 1 P.gens S) where
  abbrev C : GroupClaims P
  C = claims P K.prime K.valid K.faultless

  abbrev G : GroupTable
  G = record { p = p; n = n; entries = S.entries.items }

  abbrev N : List ℕ → ℕ
  N = number P.prime

  order-of : order G ≡ P.prime ^ P.gens
  order-of = order_is G ∙ ap₂ (λ p n. p ^ n) a b

  product-of : (x y : ℕ) → x < P.prime ^ P.gens → y < P.prime ^ P.gens → product G x y ≡ table P x y
  product-of x y h k =
      product_is G x y ∙ ap (λ w. entry_of S.entries.items w x y) (order-of ∙ sym T.width-is)
      ∙ sym (first-table P K.prime K.valid (times S) T.product-is x y h k)

  pub is-group : IsGroupTable G
  is-group =
      subst (λ m. IsGroup m (product G)) (sym order-of)
      (group-same (P.prime ^ P.gens) (table P) (product G) product-of C.table-group)

  pub is-table : IsTable G
  is-table = record {
    size = S.square.len ∙ ap (λ m. m * m) (T.width-is ∙ sym order-of);
    closed = is-group.closed;
  }

  pub small : order G ≤ 256
  small = let e = order-of in let h = K.few in omega (arith, e, h)

  is-group-of : IsGroupOf P G
  is-group-of = record {
    prime-is = a;
    rank-is = b;
    group = is-group;
    product-is = λ x y h k. let e = order-of in product-of x y (omega (arith, e, h)) (omega (arith, e, k));
  }

  -- the product of the elements of two words
  product-words : (x y : List ℕ) → IsWord P.prime P.gens 0 x → IsWord P.prime P.gens 0 y
      → product G (N x) (N y) ≡ N (multiply P x y)
  product-words x y h k =
      product-of (N x) (N y) (C.numbering.number-below x h) (C.numbering.number-below y k)
      ∙ ap N (ap₂ (multiply P) (C.numbering.word-number x h) (C.numbering.word-number y k))

  pow-word : (x : List ℕ) → IsWord P.prime P.gens 0 x → (e : ℕ)
      → IsWord P.prime P.gens 0 (pow (multiply P) (identity P.gens) x e)
  pow-word x h zero = C.group.one-word
  pow-word x h (suc e) = C.group.closed x (pow (multiply P) (identity P.gens) x e) h (pow-word x h e)

  -- the power of the element of a word
  power-word : (x : List ℕ) → IsWord P.prime P.gens 0 x → (e : ℕ)
      → power G (N x) e ≡ N (pow (multiply P) (identity P.gens) x e)
  power-word x h zero = sym C.numbering.one
  power-word x h (suc e) =
      let i : N x < order G = let z = order-of in let k = C.numbering.number-below x h in
      omega (arith, z, k) in
      commutes-power G is-group (N x) (N x) e i i refl
      ∙ ap (product G (N x)) (power-word x h e)
      ∙ product-words x (pow (multiply P) (identity P.gens) x e) h (pow-word x h e)

  abbrev g : ℕ → List ℕ
  g i = generator 1 P.gens i

  is-word : (i : ℕ) → IsWord P.prime P.gens 0 (g i)
  is-word i = generator-word P K.prime K.valid C i

  has-powers : HasPowers P G
  has-powers i h l =
      ap (λ x. power G x P.prime) (sym (C.numbering.generators i h l))
      ∙ power-word (g i) (is-word i) P.prime ∙ ap N (C.relations.power i h l)

  has-commutators : HasCommutators P G
  has-commutators j i h l k =
      let h' : 0 < i = h in
      let l' : i < j = l in
      let k' : j ≤ P.gens = k in
      let word = K.valid.commutator j i h l k in
      let c : IsWord P.prime P.gens 0 (commutator_word P j i) =
      record { len = word.len; small = word.small; later = λ m z. absurd (omega (arith, z)) } in
      let gj = C.numbering.generators j (omega (arith, h', l')) k in
      let gi = C.numbering.generators i h (omega (arith, l', k')) in
      subst₂ (λ x y. IsCommutator G x y (N (commutator_word P j i))) gj gi
      (product-words (g j) (g i) (is-word j) (is-word i)
      ∙ ap N (C.relations.commutator j i h l k)
      ∙ sym
      (ap (product G (N (g i))) (product-words (g j) (commutator_word P j i) (is-word j) c)
      ∙ product-words (g i) (multiply P (g j) (commutator_word P j i)) (is-word i)
      (C.group.closed (g j) (commutator_word P j i) (is-word j) c)))

  pub gives : GivesGroup P G
  gives = record {
    consistent = K;
    group = is-group-of;
    powers = has-powers;
    commutators = has-commutators;
  }
