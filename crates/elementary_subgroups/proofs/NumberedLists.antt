-- The list of numbered subgroups is one list of subgroups.
use Rattle.std.proofs.Common.{◌≡◌, ℕ, List, [], ◌∷◌, inl, inr, refl, ap, sym, ◌∙◌, subst}
use Rattle.group_table.specs.Tables.{GroupTable}
use Rattle.elementary_subgroups.specs.Sets.{IsIn}
use Rattle.elementary_subgroups.specs.Bases.{numbering, members_of, NumberedSubgroup, IsBasis, IsNumbered}
use Rattle.elementary_subgroups.specs.Bases.{IsSubgroupList, IsSubgroupOf}
use Rattle.elementary_subgroups.proofs.Classes.{list_is_one}
use Rattle.elementary_subgroups.proofs.Lists.{in_map}
use Rattle.elementary_subgroups.proofs.Numbering.{basis_is_one}

-- the members determine the basis and the numbering
same_subgroup : {G : GroupTable} (s t : NumberedSubgroup) → s.members ≡ t.members → IsNumbered G s →
    IsNumbered G t → s ≡ t
same_subgroup {G} s t e S T =
    let P : List ℕ → Type 0 = λ m. IsBasis G m s.basis in
    let b : s.basis ≡ t.basis = basis_is_one G [] t.members s.basis t.basis
    (subst P e S.basis_is) T.basis_is in
    let i : s.images ≡ t.images = S.images_are ∙ ap (numbering G) b ∙ sym T.images_are in
    ap (λ m. record { basis = s.basis; members = m; images = s.images }) e
    ∙ ap (λ c. record { basis = c; members = t.members; images = s.images }) b
    ∙ ap (λ c. record { basis = t.basis; members = t.members; images = c }) i

same_subgroups : {G : GroupTable} (ss ts : List NumberedSubgroup) → members_of ss ≡ members_of ts →
    ((s : NumberedSubgroup) → IsIn s ss → IsNumbered G s) → ((s : NumberedSubgroup) → IsIn s ts →
    IsNumbered G s) → ss ≡ ts
same_subgroups [] [] e f g = refl
same_subgroups [] (t ∷ ts) e f g = absurd (let bad : [] ≡ t.members ∷ members_of ts = e in cc)
same_subgroups (s ∷ ss) [] e f g = absurd (let bad : s.members ∷ members_of ss ≡ [] = e in cc)
same_subgroups {G} (s ∷ ss) (t ∷ ts) e f g =
    let q : s.members ∷ members_of ss ≡ t.members ∷ members_of ts = e in
    let first : s.members ≡ t.members = cc in
    let later : members_of ss ≡ members_of ts = cc in
    ap (λ w. w ∷ ss) (same_subgroup s t first (f s (inl refl)) (g t (inl refl)))
    ∙ ap (λ w. t ∷ w) (same_subgroups ss ts later (λ w h. f w (inr h)) (λ w h. g w (inr h)))

pub subgroups_are_one : (G : GroupTable) (ss ts : List NumberedSubgroup) → IsSubgroupList G ss →
    IsSubgroupList G ts → ss ≡ ts
subgroups_are_one G ss ts S T =
    same_subgroups ss ts (list_is_one G (members_of ss)
    (members_of ts) S.members_are T.members_are) S.numbered T.numbered

pub subgroup_in : (G : GroupTable) (ss : List NumberedSubgroup) (s : NumberedSubgroup) →
    IsSubgroupList G ss → IsIn s ss → IsSubgroupOf G s
subgroup_in G ss s S h = record {
  elementary = (S.members_are.each s.members
      (in_map (λ (w : NumberedSubgroup). w.members) s ss h)).0.elementary;
  numbered = S.numbered s h;
}
