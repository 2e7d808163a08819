-- The greedy basis of an elementary abelian subgroup generates it and numbers each element once.
use Rattle.std.proofs.Common.{◌≡◌, ℕ, zero, suc, ◌<◌, ◌+◌, ◌*◌, ◌/◌, ◌%◌, List, [], ◌∷◌, ◌++◌, inl, inr, refl}
use Rattle.std.proofs.Common.{ap, sym, ◌∙◌, subst, arith}
use Rattle.std.proofs.Math.Nat.{pow-zero}
use Rattle.group_table.specs.Tables.{GroupTable, order, product, power}
use Rattle.group_table.specs.declared.Prime.{Prime}
use Rattle.group_table.specs.Prime.{prime_value}
use Rattle.elementary_subgroups.specs.Sets.{IsIn, IsSubset}
use Rattle.elementary_subgroups.specs.Cliques.{AreElements}
use Rattle.elementary_subgroups.specs.Subgroups.{IsElementary}
use Rattle.elementary_subgroups.specs.Bases.{embed, size, IsGenerated, IsBasisFrom, IsBasis}
use Rattle.elementary_subgroups.proofs.GroupLaws.{HasGroupLaw, power_below}
use Rattle.elementary_subgroups.proofs.Members.{in_append}
use Rattle.elementary_subgroups.proofs.Numbering.{embed_below, embed_push, size_push}
use Rattle.elementary_subgroups.proofs.Span.{IsIndependentKind, IsOneToOne, one_to_one_push, generated_unit}

pub kind_of : {G : GroupTable} → (m : List ℕ) → IsElementary G m → (bs : List ℕ) → IsSubset bs m →
    IsIndependentKind G bs
kind_of m E bs s = record {
  torsion = λ x h. record { element = E.elements x (s x h); power_is = E.exponent x (s x h) };
  commutes = λ x y h k. E.commutes x y (s x h) (s y k);
}

-- what is generated stays generated, and the new member is generated
generated_grows : {G : GroupTable} → HasGroupLaw G → 1 < G.p → (bs : List ℕ) (x : ℕ) → AreElements G bs →
    x < order G → (y : ℕ) → IsGenerated G bs y → IsGenerated G (bs ++ x ∷ []) y
generated_grows {G} L z bs x h i y g =
    let s = size G bs in
    let zp : 0 < G.p = omega arith in (
      0 * s + g.0,
      subst (λ w. 0 * s + g.0 < w) (sym (size_push G bs x)) (small G.p s g.0 zp g.1),
      embed_push L zp bs x g.0 0 h i g.1 zp ∙ L.law.mul-one (embed G bs g.0) (embed_below L bs g.0 h) ∙ g.2,
    )
  where
    small : (p s e : ℕ) → 0 < p → e < s → 0 * s + e < p * s
    small p s e a b = grind arith

generated_new : {G : GroupTable} → HasGroupLaw G → 1 < G.p → (bs : List ℕ) (x : ℕ) → AreElements G bs →
    x < order G → IsGenerated G (bs ++ x ∷ []) x
generated_new {G} L z bs x h i =
    let s = size G bs in
    let zp : 0 < G.p = omega arith in
    let g = generated_unit L zp bs in (
      1 * s + g.0,
      subst (λ w. 1 * s + g.0 < w) (sym (size_push G bs x)) (small G.p s g.0 z g.1),
      embed_push L zp bs x g.0 1 h i g.1 z ∙ ap (λ w. product G w (power G x 1)) g.2
          ∙ L.law.one-mul (power G x 1) (power_below L x 1 i) ∙ L.law.one-mul x i,
    )
  where
    small : (p s e : ℕ) → 1 < p → e < s → 1 * s + e < p * s
    small p s e a b = grind arith

pub record BasisFacts (G : GroupTable) (m xs taken basis : List ℕ) : Type 0 where
  pub one_to_one : IsOneToOne G basis
  pub covers : (x : ℕ) → IsIn x xs → IsGenerated G basis x
  pub keeps : (x : ℕ) → IsGenerated G taken x → IsGenerated G basis x
  pub members : IsSubset basis m

pub basis_facts : {G : GroupTable} → HasGroupLaw G → (q : Prime) → G.p ≡ prime_value q → 1 < G.p →
    (m : List ℕ) → IsElementary G m → (xs taken basis : List ℕ) →
    IsSubset xs m → IsSubset taken m → IsOneToOne G taken → IsBasisFrom G taken xs basis →
    BasisFacts G m xs taken basis
basis_facts {G} L q pe z m E [] taken basis sx st one h = rw h (record {
  one_to_one = one;
  covers = λ x k. absurd k;
  keeps = λ x g. g;
  members = st;
})
basis_facts {G} L q pe z m E (x ∷ xs) taken basis sx st one (inl h) =
    let r = basis_facts L q pe z m E xs taken basis (λ y k. sx y (inr k)) st one h.1 in
    record {
      one_to_one = r.one_to_one;
      covers = λ y k. elim k [
        | inl e ↦ (let P : ℕ → Type 0 = λ w. IsGenerated G basis w in
            subst P (sym e) (r.keeps x h.0))
        | inr i ↦ r.covers y i
      ];
      keeps = r.keeps;
      members = r.members;
    }
basis_facts {G} L q pe z m E (x ∷ xs) taken basis sx st one (inr h) =
    let xm = sx x (inl refl) in
    let xb = E.elements x xm in
    let st2 : IsSubset (taken ++ x ∷ []) m = λ y k. elim (in_append y taken (x ∷ []) k) [
      | inl a ↦ st y a
      | inr a ↦ elim a [
        | inl e ↦ (let P : ℕ → Type 0 = λ w. IsIn w m in subst P (sym e) xm)
        | inr n ↦
            absurd n
      ]
    ] in
    let zp : 0 < G.p = omega arith in
    let below : AreElements G taken = λ y k. E.elements y (st y k) in
    let r = basis_facts L q pe z m E xs (taken ++ x ∷ []) basis (λ y k. sx y (inr k)) st2
    (one_to_one_push L q pe zp taken x (kind_of m E (taken ++ x ∷ []) st2) h.0 one) h.1 in
    record {
      one_to_one = r.one_to_one;
      covers = λ y k. elim k [
        | inl e ↦ (let P : ℕ → Type 0 = λ w. IsGenerated G basis w in
            subst P (sym e) (r.keeps x (generated_new L z taken x below xb)))
        | inr i ↦ r.covers y i
      ];
      keeps = λ y g. r.keeps y (generated_grows L z taken x below xb y g);
      members = r.members;
    }

one_to_one_none : (G : GroupTable) → IsOneToOne G []
one_to_one_none G e f i j h = let a : e < 1 = subst (λ w. e < w) (pow-zero G.p) i in
    let b : f < 1 = subst (λ w. f < w) (pow-zero G.p) j in omega arith

-- the greedy basis of a subgroup
pub basis_of_subgroup : {G : GroupTable} → HasGroupLaw G → (q : Prime) → G.p ≡ prime_value q → 1 < G.p →
    (m : List ℕ) → IsElementary G m → (basis : List ℕ) → IsBasis G m basis → BasisFacts G m m [] basis
basis_of_subgroup {G} L q pe z m E basis h = basis_facts L q pe z m E m [] basis (λ x k. k)
    (λ x k. absurd k) (one_to_one_none G) h

-- products of members are members
pub embed_member : {G : GroupTable} → (m : List ℕ) → IsElementary G m → (bs : List ℕ) → IsSubset bs m →
    (e : ℕ) → IsIn (embed G bs e) m
embed_member {G} m E [] s e = E.identity
embed_member {G} m E (b ∷ bs) s e = E.closed _ _ (power_member m E b (e % G.p) (s b (inl refl)))
    (embed_member m E bs (λ x k. s x (inr k)) (e / G.p))
  where
    power_member : {G : GroupTable} → (m : List ℕ) → IsElementary G m → (a k : ℕ) → IsIn a m →
        IsIn (power G a k) m
    power_member m E a zero h = E.identity
    power_member m E a (suc k) h = E.closed _ _ (power_member m E a k h) h
