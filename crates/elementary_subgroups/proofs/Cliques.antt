-- The maximal elementary abelian subgroups are the maximal sets of commuting elements with p-th power 0.
use Rattle.std.proofs.Common.{◌≡◌, ℕ, List, [], ◌∷◌, Bool, true, false, inl, inr, refl, ap, sym, ◌∙◌, subst}
use Rattle.std.specs.Prelude.{filter, ◌&&◌}
use Rattle.std.proofs.lemmas.Bool.{eq-eqb, eqb-true}
use Rattle.group_table.specs.Tables.{GroupTable, order, product, power}
use Rattle.elementary_subgroups.proofs.GroupLaws.{HasGroupLaw, power_product, power_of_unit, commutes_product}
use Rattle.elementary_subgroups.specs.Sets.{IsIn, IsBelow}
use Rattle.elementary_subgroups.specs.Subgroups.{IsElementary, IsMaximalElementary}
use Rattle.elementary_subgroups.specs.Bases.{numbers}
use Rattle.elementary_subgroups.specs.Cliques.{IsTorsion, Commutes, CommutesWithAll, commutes_test}
use Rattle.elementary_subgroups.specs.Cliques.{torsion_test, IsFull}
use Rattle.elementary_subgroups.proofs.Members.{in_filter, from_filter, filter_ascending, same_set}
use Rattle.elementary_subgroups.proofs.Members.{in_numbers, from_numbers, numbers_ascending}

pub torsion_unit : {G : GroupTable} → HasGroupLaw G → IsTorsion G 0
torsion_unit {G} L = record { element = L.law.some; power_is = power_of_unit L G.p }

pub torsion_product : {G : GroupTable} → HasGroupLaw G → (x y : ℕ) → IsTorsion G x → IsTorsion G y →
    Commutes G x y → IsTorsion G (product G x y)
torsion_product {G} L x y s t c = record {
  element = L.law.closed x y s.element t.element;
  power_is = power_product L x y G.p s.element t.element c ∙ ap (λ w. product G w (power G y G.p)) s.power_is
      ∙ ap (λ w. product G 0 w) t.power_is ∙ L.law.one-mul 0 L.law.some;
}

pub maximal_from_full : {G : GroupTable} → HasGroupLaw G → (m : List ℕ) → IsFull G m → IsMaximalElementary G m
maximal_from_full {G} L m F = record {
  elementary = record {
    is_set = F.is_set;
    elements = λ x h. (F.torsion x h).element;
    identity = F.full 0 (torsion_unit L)
        (λ y h. L.law.one-mul y (F.torsion y h).element ∙ sym (L.law.mul-one y (F.torsion y h).element));
    closed = λ x y h k. F.full (product G x y) (torsion_product L x y (F.torsion x h) (F.torsion y k)
        (F.commutes x y h k))
        (λ z l. commutes_product L x y z (F.torsion x h).element (F.torsion y k).element
        (F.torsion z l).element
        (F.commutes x z h l) (F.commutes y z k l));
    commutes = F.commutes;
    exponent = λ x h. (F.torsion x h).power_is;
  };
  maximal = λ l E s. same_set l m E.is_set F.is_set
      (λ y h. F.full y (record { element = E.elements y h; power_is = E.exponent y h })
      (λ x k. E.commutes y x h (s x k))) s;
}

-- tests
abbrev pub all_commute : GroupTable → List ℕ → ℕ → Bool
all_commute G [] x = true
all_commute G (y ∷ ys) x = commutes_test G x y && all_commute G ys x

both : (a b : Bool) → a ≡ true → b ≡ true → (a && b) ≡ true
both a b e f = rw (e, f) refl

left_true : (a b : Bool) → (a && b) ≡ true → a ≡ true
left_true true b e = refl
left_true false b e = e

right_true : (a b : Bool) → (a && b) ≡ true → b ≡ true
right_true true b e = e
right_true false b e = cc

pub all_commute_from : (G : GroupTable) (ys : List ℕ) (x : ℕ) → CommutesWithAll G x ys → all_commute G ys x
    ≡ true
all_commute_from G [] x h = refl
all_commute_from G (y ∷ ys) x h =
    both (commutes_test G x y) (all_commute G ys x) (eq-eqb (product G x y) (product G y x)
    (h y (inl refl))) (all_commute_from G ys x (λ z k. h z (inr k)))

pub all_commute_to : (G : GroupTable) (ys : List ℕ) (x : ℕ) → all_commute G ys x ≡ true →
    CommutesWithAll G x ys
all_commute_to G [] x e y h = elim h [ ]
all_commute_to G (z ∷ ys) x e y (inl q) =
    let P : ℕ → Type 0 = λ w. Commutes G x w in
    subst P (sym q) (eqb-true (product G x z) (product G z x) (left_true (commutes_test G x z)
    (all_commute G ys x) e))
all_commute_to G (z ∷ ys) x e y (inr h) = all_commute_to G ys x (right_true (commutes_test G x z)
    (all_commute G ys x) e) y h

-- all elements of the group whose p-th power is 0 and that commute with the listed ones
abbrev pub centralizer : GroupTable → List ℕ → List ℕ
centralizer G ys = filter (λ x. torsion_test G x && all_commute G ys x) (numbers (order G))

pub in_centralizer : (G : GroupTable) (ys : List ℕ) (x : ℕ) → IsTorsion G x → CommutesWithAll G x ys →
    IsIn x (centralizer G ys)
in_centralizer G ys x t c =
    in_filter (λ x. torsion_test G x && all_commute G ys x) x (numbers (order G))
    (in_numbers (order G) x t.element)
    (both (torsion_test G x) (all_commute G ys x) (eq-eqb (power G x G.p) 0 t.power_is)
    (all_commute_from G ys x c))

pub from_centralizer : (G : GroupTable) (ys : List ℕ) (x : ℕ) → IsIn x (centralizer G ys) →
    IsTorsion G x × CommutesWithAll G x ys
from_centralizer G ys x h =
    let r = from_filter (λ x. torsion_test G x && all_commute G ys x) x (numbers (order G)) h in (
      record {
        element = from_numbers (order G) x r.0;
        power_is = eqb-true (power G x G.p) 0
            (left_true (torsion_test G x) (all_commute G ys x) r.1);
      },
      all_commute_to G ys x (right_true (torsion_test G x) (all_commute G ys x) r.1),
    )

-- the elements that commute with all that commute with commuting elements are an elementary abelian subgroup
pub elementary_of_commuting : {G : GroupTable} → HasGroupLaw G → (ys : List ℕ) →
    ((x : ℕ) → IsIn x ys → IsTorsion G x) → ((x y : ℕ) → IsIn x ys → IsIn y ys → Commutes G x y) →
    IsElementary G (centralizer G (centralizer G ys)) × ((x : ℕ) → IsIn x ys →
    IsIn x (centralizer G (centralizer G ys)))
elementary_of_commuting {G} L ys t c =
    let D = centralizer G ys in
    let Z = centralizer G D in
    let inside : (x : ℕ) → IsIn x ys → IsIn x D = λ x h. in_centralizer G ys x (t x h) (λ y k. c x y h k) in
    let double : (x : ℕ) → IsIn x ys → IsIn x Z = λ x h. in_centralizer G D x (t x h)
    (λ y k. sym ((from_centralizer G ys y k).1 x h)) in
    let back : (x : ℕ) → IsIn x Z → IsIn x D = λ x h. in_centralizer G ys x (from_centralizer G D x h).0
    (λ y k. (from_centralizer G D x h).1 y (inside y k)) in
    let commute : (x y : ℕ) → IsIn x Z → IsIn y Z → Commutes G x y = λ x y h k.
    (from_centralizer G D x h).1 y (back y k) in (
      record {
        is_set = filter_ascending IsBelow (λ x. torsion_test G x && all_commute G D x) (numbers (order G))
            (numbers_ascending (order G));
        elements = λ x h. (from_centralizer G D x h).0.element;
        identity = in_centralizer G D 0 (torsion_unit L)
            (λ y k. L.law.one-mul y (from_centralizer G ys y k).0.element
            ∙ sym (L.law.mul-one y (from_centralizer G ys y k).0.element));
        closed = λ x y h k. in_centralizer G D (product G x y)
            (torsion_product L x y (from_centralizer G D x h).0 (from_centralizer G D y k).0
            (commute x y h k))
            (λ z l. commutes_product L x y z (from_centralizer G D x h).0.element
            (from_centralizer G D y k).0.element (from_centralizer G ys z l).0.element
            ((from_centralizer G D x h).1 z l) ((from_centralizer G D y k).1 z l));
        commutes = commute;
        exponent = λ x h. (from_centralizer G D x h).0.power_is;
      },
      double,
    )

pub full_from_maximal : {G : GroupTable} → HasGroupLaw G → (m : List ℕ) → IsMaximalElementary G m → IsFull G m
full_from_maximal {G} L m M = record {
  is_set = M.elementary.is_set;
  torsion = torsion;
  commutes = M.elementary.commutes;
  full = λ y t c.
      let ys = y ∷ m in
      let E = elementary_of_commuting L ys
      (λ x h. elim h [
        | inl e ↦ (let P : ℕ → Type 0 = λ w. IsTorsion G w in subst P (sym e) t)
        | inr k ↦
            torsion x k
      ])
      (λ x z h k. pairs y t c x z h k) in
      let e = M.maximal (centralizer G (centralizer G ys)) E.0 (λ x h. E.1 x (inr h)) in
      let P : List ℕ → Type 0 = λ l. IsIn y l in subst P e (E.1 y (inl refl));
}
  where
    torsion : (x : ℕ) → IsIn x m → IsTorsion G x
    torsion x h = record { element = M.elementary.elements x h; power_is = M.elementary.exponent x h }

    pairs : (y : ℕ) → IsTorsion G y → CommutesWithAll G y m → (x z : ℕ) → IsIn x (y ∷ m) → IsIn z (y ∷ m) →
        Commutes G x z
    pairs y t c x z (inl e) (inl f) = let q : x ≡ z = e ∙ sym f in ap (λ w. product G x w) (sym q)
        ∙ ap (λ w. product G w x) q
    pairs y t c x z (inl e) (inr k) = let P : ℕ → Type 0 = λ w. Commutes G w z in subst P (sym e) (c z k)
    pairs y t c x z (inr h) (inl f) = let P : ℕ → Type 0 = λ w. Commutes G x w in
        subst P (sym f) (sym (c x h))
    pairs y t c x z (inr h) (inr k) = M.elementary.commutes x z h k
