-- The steps of the choice of a basis.
use Rattle.std.proofs.Common.{◌≡◌, ℕ, zero, suc, ◌<◌, ◌+◌, ◌*◌, ◌≤◌, List, [], ◌∷◌, ◌++◌, inl, inr, ap, sym}
use Rattle.std.proofs.Common.{◌∙◌, subst, arith, length, get_or, map, drop, drop-cons, add-one}
use Rattle.std.proofs.Math.Nat.{pow-zero}
use Rattle.group_table.specs.Tables.{GroupTable, order, product, power}
use Rattle.group_table.specs.declared.Prime.{Prime}
use Rattle.group_table.specs.declared.Prime.TheVariants.{P2, P3, P5, P7}
use Rattle.group_table.specs.Prime.{prime_value}
use Rattle.elementary_subgroups.specs.Bases.{embed, size, numbers, numbering, IsBasisFrom}
use Rattle.elementary_subgroups.specs.Cliques.{AreElements}
use Rattle.elementary_subgroups.specs.Sets.{IsIn}
use Rattle.elementary_subgroups.proofs.GroupLaws.{HasGroupLaw}
use Rattle.elementary_subgroups.proofs.Indices.{in_at}
use Rattle.elementary_subgroups.proofs.Lists.{map_append, map_map, map_same, numbers_add}
use Rattle.elementary_subgroups.proofs.Members.{from_numbers, in_append}
use Rattle.elementary_subgroups.proofs.Numbering.{embed_push, generated_in, in_generated, size_push}
use Rattle.subgroup_list.specs.Choosing.{spread}

-- how far the choice has come after i members: each basis that goes on from here is one of all members
pub record IsBasisSoFar (G : GroupTable) (members basis images : List ℕ) (i : ℕ) : Type 0 where
  pub images_are : images ≡ numbering G basis
  pub elements : AreElements G basis
  pub rest : (b : List ℕ) → IsBasisFrom G basis (drop i members) b → IsBasisFrom G [] members b

spread_numbering : {G : GroupTable} → HasGroupLaw G → 0 < G.p → (bs : List ℕ) (x k : ℕ) → AreElements G bs →
    x < order G → k ≤ G.p →
    spread G (numbering G bs) x k ≡ map (embed G (bs ++ x ∷ [])) (numbers (k * size G bs))
spread_numbering {G} L z bs x zero h i m =
    ap (λ n. map (embed G (bs ++ x ∷ [])) (numbers n)) (none (size G bs))
  where
    none : (s : ℕ) → 0 ≡ 0 * s
    none s = omega arith
spread_numbering {G} L z bs x (suc k) h i m =
    ap (λ l. l ++ map (λ y. product G y (power G x k)) (numbering G bs))
    (spread_numbering L z bs x k h i (omega arith))
    ∙ ap (λ l. map E (numbers (k * s)) ++ l)
    (map_map (λ y. product G y (power G x k)) (embed G bs) (numbers s)
    ∙ map_same (λ e. product G (embed G bs e) (power G x k)) (λ e. E (k * s + e)) (numbers s)
    (λ e t. sym (embed_push L z bs x e k h i (from_numbers s e t) (omega arith)))
    ∙ sym (map_map E (λ e. k * s + e) (numbers s)))
    ∙ sym (map_append E (numbers (k * s)) (map (λ e. k * s + e) (numbers s)))
    ∙ ap (map E) (sym (numbers_add (k * s) s))
    ∙ ap (λ n. map E (numbers n)) (next k s)
  where
    s : ℕ
    s = size G bs

    E : ℕ → ℕ
    E = embed G (bs ++ x ∷ [])

    next : (k s : ℕ) → k * s + s ≡ suc k * s
    next k s = omega arith

pub numbering_push : {G : GroupTable} → HasGroupLaw G → 0 < G.p → (bs : List ℕ) (x : ℕ) (ys : List ℕ) →
    AreElements G bs → x < order G → ys ≡ numbering G bs → spread G ys x G.p ≡ numbering G (bs ++ x ∷ [])
numbering_push {G} L z bs x ys h i e =
    ap (λ l. spread G l x G.p) e ∙ spread_numbering L z bs x G.p h i (omega arith)
    ∙ ap (λ n. map (embed G (bs ++ x ∷ [])) (numbers n)) (sym (size_push G bs x))

pub numbering_none : (G : GroupTable) → 0 ∷ [] ≡ numbering G []
numbering_none G = ap (λ n. map (embed G []) (numbers n)) (sym (pow-zero G.p))

step : (members : List ℕ) (i : ℕ) → i < length members → drop i members ≡ get_or members i 0 ∷ drop
    (i + 1) members
step members i l = rw add-one (drop-cons members i 0 l)

pub basis_taken : {G : GroupTable} → HasGroupLaw G → 0 < G.p → (members basis images : List ℕ) (i p : ℕ)
    (ims new_images new_basis : List ℕ) →
    i < length members → AreElements G members → IsBasisSoFar G members basis images i → ims ≡ images →
    (IsIn (get_or members i 0) ims → ⊥) → p ≡ G.p → new_images ≡ spread G ims (get_or members i 0) p →
    new_basis ≡ basis ++ get_or members i 0 ∷ [] → IsBasisSoFar G members new_basis new_images (i + 1)
basis_taken {G} L z members basis images i p ims new_images new_basis l below B same fresh pp ni nb =
    let x = get_or members i 0 in
    let xb : x < order G = below x (in_at members i 0 l) in
    let q : ims ≡ numbering G basis = same ∙ B.images_are in
    record {
      images_are = ni ∙ ap (λ n. spread G ims x n) pp ∙ numbering_push L z basis x ims B.elements xb q
          ∙ ap (numbering G) (sym nb);
      elements = λ y h. let P : List ℕ → Type 0 = λ m. IsIn y m in
          elim (in_append y basis (x ∷ []) (subst P nb h)) [
            | inl a ↦ B.elements y a
            | inr a ↦ elim a [
              | inl e ↦ (let Q : ℕ → Type 0 = λ w. w < order G in
                  subst Q (sym e) xb)
              | inr n ↦ absurd n
            ]
          ];
      rest = λ b h. B.rest b (let P : List ℕ → Type 0 = λ m. IsBasisFrom G basis m b in
          let Q : List ℕ → Type 0 = λ m. IsBasisFrom G m (drop (i + 1) members) b in
          subst P (sym (step members i l))
          (inr (
            (λ g. fresh (let R : List ℕ → Type 0 = λ m. IsIn x m in
                subst R (sym q) (generated_in G basis x g))),
            subst Q nb h,
          )));
    }

pub basis_left : {G : GroupTable} (members basis images : List ℕ) (i : ℕ)
    (ims new_images new_basis : List ℕ) →
    i < length members → IsBasisSoFar G members basis images i → ims ≡ images →
    IsIn (get_or members i 0) ims → new_images ≡ images → new_basis ≡ basis →
    IsBasisSoFar G members new_basis new_images (i + 1)
basis_left {G} members basis images i ims new_images new_basis l B same old ni nb =
    let x = get_or members i 0 in
    let q : ims ≡ numbering G basis = same ∙ B.images_are in
    record {
      images_are = ni ∙ B.images_are ∙ ap (numbering G) (sym nb);
      elements = λ y h. let P : List ℕ → Type 0 = λ m. IsIn y m in B.elements y (subst P nb h);
      rest = λ b h. B.rest b (let P : List ℕ → Type 0 = λ m. IsBasisFrom G basis m b in
          let Q : List ℕ → Type 0 = λ m. IsBasisFrom G m (drop (i + 1) members) b in
          subst P (sym (step members i l))
          (inl (
            in_generated G basis x (let R : List ℕ → Type 0 = λ m. IsIn x m in subst R q old),
            subst Q nb h,
          )));
    }

pub value_positive : (q : Prime) → 0 < prime_value q
value_positive P2 = omega arith
value_positive P3 = omega arith
value_positive P5 = omega arith
value_positive P7 = omega arith
