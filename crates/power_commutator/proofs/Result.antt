-- A presentation without a fault gives a group in which its relations hold.
use Rattle.std.proofs.Common.{◌≡◌, ℕ, suc, pred, sym, ◌∙◌, ap, ap₂, subst, ◌^◌, ◌<◌, arith, List, None}
use Rattle.power_commutator.specs.Presentations.{Presentation, IsWord, IsPresentation, pow, ascending}
use Rattle.power_commutator.specs.Presentations.{identity, generator, multiply, number, word_of, tests}
use Rattle.power_commutator.specs.Presentations.{first_fault, power_word, commutator_word}
use Rattle.power_commutator.specs.Claims.{IsWordGroup, IsNumbering, GroupClaims}
use Rattle.group_table.specs.Groups.{IsGroup as IsTableGroup}
use Rattle.power_commutator.proofs.Group.{IsGroup, IsHom, one-mul, inv-mul, map-pow}
use Rattle.power_commutator.proofs.Tuples.{Tuple, list-of, identity-tuple, generator-tuple, ascending-same}
use Rattle.power_commutator.proofs.Tuples.{map-ascending}
use Rattle.power_commutator.proofs.Dyck.{times}
use Rattle.power_commutator.proofs.Layers.{Layer, layers}
use Rattle.power_commutator.proofs.Lists.{list-identity, list-generator, list-word, list-times}
use Rattle.power_commutator.proofs.Tests.{none-each, all-hold}
use Rattle.power_commutator.proofs.Numbers.{list-is, for-words, numbering}

-- a group of tuples is a group of words
pub word-group : (q n : ℕ) (mul : Tuple q n → Tuple q n → Tuple q n) (op : List ℕ → List ℕ → List ℕ)
    → IsHom mul op (list-of q n)
    → IsGroup (identity-tuple q n) mul → IsWordGroup (suc q) n op
word-group q n mul op hom H = record {
  closed = λ x y v w. for-words q n (λ y. IsWord (suc q) n 0 (op x y))
      (λ b. for-words q n (λ x. IsWord (suc q) n 0 (op x (L b)))
      (λ a. subst (IsWord (suc q) n 0) (hom a b) (list-is q n (mul a b))) x v) y w;
  one-word = subst (IsWord (suc q) n 0) one (list-is q n (identity-tuple q n));
  one-mul = for-words q n (λ x. op (identity n) x ≡ x) (λ a. ap (λ t. op t (L a)) (sym one) ∙ sym (hom _ a)
      ∙ ap L (one-mul H a));
  mul-one = for-words q n (λ x. op x (identity n) ≡ x) (λ a. ap (op (L a)) (sym one) ∙ sym (hom a _)
      ∙ ap L (H.mul-one a));
  mul-assoc = λ x y z u v w.
      for-words q n (λ z. op (op x y) z ≡ op x (op y z))
      (λ c. for-words q n (λ y. op (op x y) (L c) ≡ op x (op y (L c)))
      (λ b. for-words q n (λ x. op (op x (L b)) (L c) ≡ op x (op (L b) (L c)))
      (λ a. ap (λ t. op t (L c)) (sym (hom a b)) ∙ sym (hom (mul a b) c) ∙ ap L (H.mul-assoc a b c)
      ∙ hom a (mul b c) ∙ ap (op (L a)) (hom b c)) x u) y v) z w;
  inverse = for-words q n (λ x. (y : List ℕ) × IsWord (suc q) n 0 y × (op x y ≡ identity n)
      × (op y x ≡ identity n))
      (λ a. (
        L (H.inv a),
        list-is q n (H.inv a),
        sym (hom a _) ∙ ap L (H.mul-inv a) ∙ one,
        sym (hom _ a)
            ∙ ap L (inv-mul H a) ∙ one,
      ));
}
  where
    L : Tuple q n → List ℕ
    L = list-of q n

    one : L (identity-tuple q n) ≡ identity n
    one = list-identity q n

-- a group of words is a group of numbers
pub table-group : (p n : ℕ) (op : List ℕ → List ℕ → List ℕ) → IsWordGroup p n op → IsNumbering p n
    → IsTableGroup (p ^ n) (λ a b. number p (op (word_of p n a) (word_of p n b)))
table-group p n op H N = record {
  closed = λ a b h k. N.number-below _ (H.closed _ _ (N.word-is a) (N.word-is b));
  some = let h : number p (identity n) < p ^ n = N.number-below (identity n) H.one-word in omega (arith, h);
  one-mul = λ a h. ap (λ t. number p (op t (word_of p n a))) zero-word
      ∙ ap (number p) (H.one-mul _ (N.word-is a)) ∙ N.number-word a h;
  mul-one = λ a h. ap (λ t. number p (op (word_of p n a) t)) zero-word
      ∙ ap (number p) (H.mul-one _ (N.word-is a)) ∙ N.number-word a h;
  mul-assoc = λ a b c h k l.
      ap (λ t. number p (op t (word_of p n c))) (N.word-number _ (H.closed _ _ (N.word-is a) (N.word-is b)))
      ∙ ap (number p) (H.mul-assoc _ _ _ (N.word-is a) (N.word-is b) (N.word-is c))
      ∙ sym (ap (λ t. number p (op (word_of p n a) t))
      (N.word-number _ (H.closed _ _ (N.word-is b) (N.word-is c))));
  inverse = λ a h.
      let i = H.inverse (word_of p n a) (N.word-is a) in
      let e : word_of p n (number p i.0) ≡ i.0 = N.word-number i.0 i.1 in (
        number p i.0,
        N.number-below i.0 i.1,
        ap (λ t. number p (op (word_of p n a) t)) e ∙ ap (number p) i.2 ∙ N.one,
        ap (λ t. number p (op t (word_of p n a))) e ∙ ap (number p) i.3 ∙ N.one,
      );
}
  where
    zero-word : word_of p n 0 ≡ identity n
    zero-word = ap (word_of p n) (sym N.one) ∙ N.word-number (identity n) H.one-word

-- the claims, from the layers on tuples
claims-from : (q : ℕ) → 1 < suc q → (P : Presentation) → P.prime ≡ suc q → IsPresentation P
    → Layer q P 0 P.gens → GroupClaims P
claims-from q r P p-is v L = record {
  group = G;
  relations = record {
    power = λ i h l.
        ap₂ (pow op (identity n)) (sym (list-generator q r 1 n i)) p-is
        ∙ sym (map-pow (identity-tuple q n) mul (identity n) op (list-of q n) hom (list-identity q n)
        (generator-tuple q 1 n i) (suc q))
        ∙ ap (list-of q n) (L.power i (h, omega (arith, l)))
        ∙ list-word q P.prime n i (power_word P i) p-is (v.power i h l) 0 n (omega arith);
    commutator = λ j i h l k.
        ap₂ op (sym (list-generator q r 1 n j)) (sym (list-generator q r 1 n i)) ∙ sym (hom _ _)
        ∙ ap (list-of q n) (L.swap i j (
          h,
          let l' : i < j = l in omega (arith, l', k),
        ) (
          let l' : i < j = l in
              omega (arith, l', h),
          omega (arith, k),
        ) l)
        ∙ hom _ _ ∙ ap₂ op (list-generator q r 1 n i)
        (hom _ _ ∙ ap₂ op (list-generator q r 1 n j)
        (list-word q P.prime n j (commutator_word P j i) p-is (v.commutator j i h l k) 0 n
        (omega arith)));
  };
  normal = λ x w.
      for-words q P.gens (λ x. ascending (multiply P) (identity P.gens) (generator 1 P.gens) 1 x ≡ x)
      (λ a.
      ascending-same q (identity P.gens) (multiply P) (generator 1 P.gens)
      (λ k. list-of q P.gens (generator-tuple q 1 P.gens k)) 1 P.gens
      (λ k b. sym (list-generator q r 1 P.gens k)) a
      ∙ sym (map-ascending (identity-tuple q P.gens) (times q P 1 P.gens) (identity P.gens) (multiply P)
      (list-of q P.gens) hom (list-identity q P.gens) (generator-tuple q 1 P.gens) 1 (list-of q P.gens a))
      ∙ ap (list-of q P.gens) (L.spans a))
      x (subst (λ p. IsWord p P.gens 0 x) p-is w);
  numbering = N;
  table-group = table-group P.prime n op G N;
}
  where
    n : ℕ
    n = P.gens

    op : List ℕ → List ℕ → List ℕ
    op = multiply P

    mul : Tuple q P.gens → Tuple q P.gens → Tuple q P.gens
    mul = times q P 1 P.gens

    hom : IsHom (times q P 1 P.gens) (multiply P) (list-of q P.gens)
    hom = list-times q r P p-is v 1 P.gens (omega arith) (omega arith)

    G : IsWordGroup P.prime P.gens (multiply P)
    G = subst (λ p. IsWordGroup p P.gens (multiply P)) (sym p-is)
        (word-group q P.gens (times q P 1 P.gens) (multiply P) hom L.group)

    N : IsNumbering P.prime P.gens
    N = subst (λ p. IsNumbering p P.gens) (sym p-is) (numbering q P.gens)

pub claims : (P : Presentation) → 1 < P.prime → IsPresentation P → first_fault P ≡ None → GroupClaims P
claims P s v e =
    claims-from (pred P.prime) (omega (arith, s)) P (omega (arith, s)) v
    (layers (pred P.prime) (omega (arith, s)) P v 0 P.gens (omega arith)
    (all-hold (pred P.prime) (omega (arith, s)) P (omega (arith, s)) v 1 P.gens (omega arith) (omega arith)
    (none-each (tests P 1 P.gens) e)))
