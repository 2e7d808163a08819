-- Conjugates of sets.
use Rattle.std.proofs.Common.{◌≡◌, ℕ, zero, suc, ◌<◌, List, [], ◌∷◌, Bool, true, false, ◌⊎◌, inl, inr, refl}
use Rattle.std.proofs.Common.{ap, sym, ◌∙◌, subst, eqb}
use Rattle.std.specs.Prelude.{filter, ◌||◌}
use Rattle.std.specs.List.{list_any}
use Rattle.std.proofs.lemmas.Bool.{eq-eqb, eqb-true}
use Rattle.group_table.specs.Tables.{GroupTable, order, product, power}
use Rattle.elementary_subgroups.proofs.GroupLaws.{HasGroupLaw, inverse_right, cancel_left, cancel_right}
use Rattle.elementary_subgroups.proofs.GroupLaws.{power_below}
use Rattle.elementary_subgroups.specs.Sets.{IsIn, IsBelow}
use Rattle.elementary_subgroups.specs.Subgroups.{IsConjugateBy}
use Rattle.elementary_subgroups.specs.Bases.{numbers}
use Rattle.elementary_subgroups.specs.Cliques.{IsTorsion, Commutes, IsFull}
use Rattle.elementary_subgroups.proofs.Members.{in_filter, from_filter, filter_ascending, in_numbers}
use Rattle.elementary_subgroups.proofs.Members.{from_numbers, numbers_ascending}

-- y = g^-1 x g
abbrev pub Carries : GroupTable → ℕ → ℕ → ℕ → Type 0
Carries G g x y = product G g y ≡ product G x g

pub same_left : {G : GroupTable} → HasGroupLaw G → (g a b : ℕ) → g < order G → a < order G → b < order G →
    product G g a ≡ product G g b → a ≡ b
same_left {G} L g a b i j k e = let v = L.law.inverse g i in
    sym (cancel_left L g v.0 a i v.1 j v.3) ∙ ap (λ w. product G v.0 w) e ∙ cancel_left L g v.0 b i v.1 k v.3

-- (a g) i = a where i g = 0
pub undo_right : {G : GroupTable} → HasGroupLaw G → (g i a : ℕ) → g < order G → i < order G → a < order G →
    product G i g ≡ 0 → product G (product G a g) i ≡ a
undo_right {G} L g i a j k l e = L.law.mul-assoc a g i l j k
    ∙ ap (λ w. product G a w) (inverse_right L g i j k e) ∙ L.law.mul-one a l

-- (a i) g = a where i g = 0
pub undo_left : {G : GroupTable} → HasGroupLaw G → (g i a : ℕ) → g < order G → i < order G → a < order G →
    product G i g ≡ 0 → product G (product G a i) g ≡ a
undo_left {G} L g i a j k l e = L.law.mul-assoc a i g l k j ∙ ap (λ w. product G a w) e ∙ L.law.mul-one a l

pub same_right : {G : GroupTable} → HasGroupLaw G → (g a b : ℕ) → g < order G → a < order G → b < order G →
    product G a g ≡ product G b g → a ≡ b
same_right {G} L g a b i j k e = let v = L.law.inverse g i in
    sym (undo_right L g v.0 a i v.1 j v.3) ∙ ap (λ w. product G w v.0) e ∙ undo_right L g v.0 b i v.1 k v.3

pub carries_product : {G : GroupTable} → HasGroupLaw G → (g x y u v : ℕ) → g < order G → x < order G →
    y < order G → u < order G → v < order G →
    Carries G g x y → Carries G g u v → Carries G g (product G x u) (product G y v)
carries_product {G} L g x y u v i j k l m e f =
    sym (L.law.mul-assoc g y v i k m) ∙ ap (λ w. product G w v) e ∙ L.law.mul-assoc x g v j i m
    ∙ ap (λ w. product G x w) f ∙ sym (L.law.mul-assoc x u g j l i)

pub carries_power : {G : GroupTable} → HasGroupLaw G → (g x y e : ℕ) → g < order G → x < order G →
    y < order G → Carries G g x y → Carries G g (power G x e) (power G y e)
carries_power L g x y zero i j k h = L.law.mul-one g i ∙ sym (L.law.one-mul g i)
carries_power L g x y (suc e) i j k h =
    carries_product L g _ _ x y i (power_below L x e j) (power_below L y e k) j k
    (carries_power L g x y e i j k h) h

pub commutes_back : {G : GroupTable} → HasGroupLaw G → (g x y u v : ℕ) → g < order G → x < order G →
    y < order G → u < order G → v < order G →
    Carries G g x y → Carries G g u v → Commutes G y v → Commutes G x u
commutes_back {G} L g x y u v i j k l m e f c =
    same_right L g (product G x u) (product G u x) i (L.law.closed x u j l) (L.law.closed u x l j)
    (sym (carries_product L g x y u v i j k l m e f) ∙ ap (λ w. product G g w) c
    ∙ carries_product L g u v x y i l m j k f e)

pub commutes_along : {G : GroupTable} → HasGroupLaw G → (g x y u v : ℕ) → g < order G → x < order G →
    y < order G → u < order G → v < order G →
    Carries G g x y → Carries G g u v → Commutes G x u → Commutes G y v
commutes_along {G} L g x y u v i j k l m e f c =
    same_left L g (product G y v) (product G v y) i (L.law.closed y v k m) (L.law.closed v y m k)
    (carries_product L g x y u v i j k l m e f ∙ ap (λ w. product G w g) c
    ∙ sym (carries_product L g u v x y i l m j k f e))

pub torsion_along : {G : GroupTable} → HasGroupLaw G → (g x y : ℕ) → g < order G → y < order G →
    IsTorsion G x → Carries G g x y → IsTorsion G y
torsion_along {G} L g x y i k t e = record {
  element = k;
  power_is = same_left L g (power G y G.p) 0 i (power_below L y G.p k) L.law.some
      (carries_power L g x y G.p i t.element k e ∙ ap (λ w. product G w g) t.power_is ∙ L.law.one-mul g i
      ∙ sym (L.law.mul-one g i));
}

pub torsion_back : {G : GroupTable} → HasGroupLaw G → (g x y : ℕ) → g < order G → x < order G →
    IsTorsion G y → Carries G g x y → IsTorsion G x
torsion_back {G} L g x y i k t e = record {
  element = k;
  power_is = same_right L g (power G x G.p) 0 i (power_below L x G.p k) L.law.some
      (sym (carries_power L g x y G.p i k t.element e) ∙ ap (λ w. product G g w) t.power_is
      ∙ L.law.mul-one g i ∙ sym (L.law.one-mul g i));
}

-- a conjugate of a full set is full
pub conjugate_full : {G : GroupTable} → HasGroupLaw G → (g : ℕ) (m l : List ℕ) → g < order G → IsFull G m →
    IsConjugateBy G g m l → IsFull G l
conjugate_full {G} L g m l i F C = record {
  is_set = C.is_set;
  torsion = λ y h. let r = C.comes y h in torsion_along L g r.0 y i (C.elements y h) (F.torsion r.0 r.1) r.2;
  commutes = λ y v h k. let r = C.comes y h in let s = C.comes v k in
      commutes_along L g r.0 y s.0 v i (F.torsion r.0 r.1).element (C.elements y h)
      (F.torsion s.0 s.1).element (C.elements v k) r.2 s.2 (F.commutes r.0 s.0 r.1 s.1);
  full = λ y t c.
      let n = L.law.inverse g i in
      let gy = L.law.closed g y i t.element in
      let x = product G (product G g y) n.0 in
      let xb = L.law.closed (product G g y) n.0 gy n.1 in
      let e : Carries G g x y = sym (undo_left L g n.0 (product G g y) i n.1 gy n.3) in
      let h : IsIn x m = F.full x (torsion_back L g x y i xb t e)
      (λ z k. let r = C.takes z k in
      commutes_back L g x y z r.0 i xb t.element (F.torsion z k).element (C.elements r.0 r.1) e r.2
      (c r.0 r.1)) in
      let r = C.takes x h in
      let P : ℕ → Type 0 = λ w. IsIn w l in
      subst P (same_left L g r.0 y i (C.elements r.0 r.1) t.element (r.2 ∙ sym e)) r.1;
}

-- y is in the conjugate exactly when g y g^-1 is in the set
pub conjugate_to : {G : GroupTable} → HasGroupLaw G → (g i : ℕ) (m l : List ℕ) → g < order G → i < order G →
    product G i g ≡ 0 → ((x : ℕ) → IsIn x m → x < order G) →
    IsConjugateBy G g m l → (y : ℕ) → IsIn y l → IsIn (product G (product G g y) i) m
conjugate_to {G} L g i m l a b e below C y h = let r = C.comes y h in
    let P : ℕ → Type 0 = λ w. IsIn w m in
    subst P (sym (ap (λ w. product G w i) r.2 ∙ undo_right L g i r.0 a b (below r.0 r.1) e)) r.1

pub conjugate_from : {G : GroupTable} → HasGroupLaw G → (g i : ℕ) (m l : List ℕ) → g < order G →
    i < order G → product G i g ≡ 0 →
    IsConjugateBy G g m l → (y : ℕ) → y < order G → IsIn (product G (product G g y) i) m → IsIn y l
conjugate_from {G} L g i m l a b e C y k h = let r = C.takes (product G (product G g y) i) h in
    let P : ℕ → Type 0 = λ w. IsIn w l in
    subst P (same_left L g r.0 y a (C.elements r.0 r.1) k (r.2
    ∙ undo_left L g i (product G g y) a b (L.law.closed g y a k) e)) r.1

-- membership as a test
abbrev pub member : List ℕ → ℕ → Bool
member ys x = list_any (λ y. eqb y x) ys

or_left : (a b : Bool) → a ≡ true → (a || b) ≡ true
or_left a b e = rw e refl

or_right : (a b : Bool) → b ≡ true → (a || b) ≡ true
or_right true b e = refl
or_right false b e = e

or_cases : (a b : Bool) → (a || b) ≡ true → (a ≡ true) ⊎ (b ≡ true)
or_cases true b e = inl refl
or_cases false b e = inr e

pub member_from : (ys : List ℕ) (x : ℕ) → IsIn x ys → member ys x ≡ true
member_from [] x h = elim h [ ]
member_from (y ∷ ys) x (inl e) = or_left (eqb y x) (member ys x) (eq-eqb y x (sym e))
member_from (y ∷ ys) x (inr h) = or_right (eqb y x) (member ys x) (member_from ys x h)

pub member_to : (ys : List ℕ) (x : ℕ) → member ys x ≡ true → IsIn x ys
member_to [] x e = absurd (let bad : false ≡ true = e in cc)
member_to (y ∷ ys) x e = elim (or_cases (eqb y x) (member ys x) e) [
  | inl a ↦ inl (sym (eqb-true y x a))
  | inr a ↦ inr (member_to ys x a)
]

-- the conjugate
pub conjugate_exists : {G : GroupTable} → HasGroupLaw G → (g : ℕ) (m : List ℕ) → g < order G →
    ((x : ℕ) → IsIn x m → x < order G) → (l : List ℕ) × IsConjugateBy G g m l
conjugate_exists {G} L g m i below = let n = L.law.inverse g i in
    let t : ℕ → Bool = λ y. member m (product G (product G g y) n.0) in (
      filter t (numbers (order G)),
      record {
        is_set = filter_ascending IsBelow t (numbers (order G)) (numbers_ascending (order G));
        elements = λ y h. from_numbers (order G) y (from_filter t y (numbers (order G)) h).0;
        takes = λ x h.
            let y = product G n.0 (product G x g) in
            let xg = L.law.closed x g (below x h) i in
            let yb = L.law.closed n.0 (product G x g) n.1 xg in
            let e : Carries G g x y = cancel_right L g n.0 (product G x g) i n.1 xg n.3 in
            let P : ℕ → Type 0 = λ w. IsIn w m in (
              y,
              in_filter t y (numbers (order G)) (in_numbers (order G) y yb)
                  (member_from m (product G (product G g y) n.0)
                  (subst P (sym (ap (λ w. product G w n.0) e
                  ∙ undo_right L g n.0 x i n.1 (below x h) n.3)) h)),
              e,
            );
        comes = λ y h.
            let r = from_filter t y (numbers (order G)) h in
            let yb = from_numbers (order G) y r.0 in (
              product G (product G g y) n.0,
              member_to m (product G (product G g y) n.0) r.1,
              sym (undo_left L g n.0 (product G g y) i n.1 (L.law.closed g y i yb) n.3),
            );
      },
    )
