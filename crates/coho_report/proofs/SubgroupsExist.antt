-- Every group has its list of maximal elementary abelian subgroups.
use Rattle.std.proofs.Common.{◌≡◌, ℕ, zero, suc, ◌<◌, ◌≤◌, List, [], ◌∷◌, ◌++◌, ◌⊎◌, inl, inr, length, true}
use Rattle.std.proofs.Common.{false, refl, ap, sym, ◌∙◌, subst, arith}
use Rattle.std.specs.List.{filter}
use Rattle.std.proofs.lemmas.Bool.{cases_Bool, cases_lt}
use Rattle.group_table.specs.Tables.{GroupTable, IsGroupTable, order}
use Rattle.elementary_subgroups.specs.Bases.{numbering, numbers, IsBasisFrom, IsNumbered, IsSubgroupList}
use Rattle.elementary_subgroups.specs.Bases.{members_of, NumberedSubgroup}
use Rattle.elementary_subgroups.specs.Cliques.{CommutesWithAll, IsFull, commutes_test, torsion_test}
use Rattle.elementary_subgroups.specs.Sets.{IsBefore, IsIn}
use Rattle.elementary_subgroups.specs.Subgroups.{IsConjugateBy, IsLeast, IsMaximalElementaryList}
use Rattle.elementary_subgroups.proofs.Classes.{compare_maximal}
use Rattle.elementary_subgroups.proofs.Cliques.{all_commute, all_commute_from, all_commute_to}
use Rattle.elementary_subgroups.proofs.Cliques.{maximal_from_full}
use Rattle.elementary_subgroups.proofs.Conjugates.{conjugate_exists, conjugate_full, member, member_from}
use Rattle.elementary_subgroups.proofs.Conjugates.{member_to, same_left}
use Rattle.elementary_subgroups.proofs.GroupLaws.{HasGroupLaw, law_of}
use Rattle.elementary_subgroups.proofs.Members.{same_set}
use Rattle.elementary_subgroups.proofs.Numbering.{generated_in, in_generated}
use Rattle.subgroup_list.specs.Search.{IsBlocked, IsFound, IsPlace}
use Rattle.subgroup_list.proofs.Comparison.{not_least}
use Rattle.subgroup_list.proofs.Places.{place_with, place_without, place_start, found_blocked, full_at_end}
use Rattle.subgroup_list.proofs.Places.{found_least, found_not_least, found_join, found_all, shorter_filter}

module _ {G : GroupTable} (L : HasGroupLaw G) where
  same_conjugate : (g : ℕ) (m k l : List ℕ) → g < order G → IsConjugateBy G g m k → IsConjugateBy G g m l
      → k ≡ l
  same_conjugate g m k l i C K = same_set k l C.is_set K.is_set
      (λ y h. let r = C.comes y h in let s = K.takes r.0 r.1 in
      let P : ℕ → Type 0 = λ w. IsIn w l in
      subst P (same_left L g s.0 y i (K.elements s.0 s.1) (C.elements y h) (s.2 ∙ sym r.2)) s.1)
      (λ y h. let r = K.comes y h in let s = C.takes r.0 r.1 in
      let P : ℕ → Type 0 = λ w. IsIn w k in
      subst P (same_left L g s.0 y i (C.elements s.0 s.1) (K.elements y h) (s.2 ∙ sym r.2)) s.1)

  -- no conjugate by an element below n comes before m
  abbrev IsLeastBelow : List ℕ → ℕ → Type 0
  IsLeastBelow m n = (g : ℕ) → g < n → (l : List ℕ) → IsConjugateBy G g m l → (m ≡ l) ⊎ IsBefore m l

  more : (m : List ℕ) (n : ℕ) → IsLeastBelow m n
      → ((l : List ℕ) → IsConjugateBy G n m l → (m ≡ l) ⊎ IsBefore m l) → IsLeastBelow m (suc n)
  more m n f here g less l C = go (cases_lt g n)
    where
      go : (g < n) ⊎ (n ≤ g) → (m ≡ l) ⊎ IsBefore m l
      go (inl low) = f g low l C
      go (inr high) = let same : g ≡ n = omega arith in
          here l (subst (λ g. IsConjugateBy G g m l) same C)

  decided_below : (m : List ℕ) → IsFull G m → (n : ℕ) → n ≤ order G
      → IsLeastBelow m n ⊎ (IsLeast G m → ⊥)
  decided_below m F zero le = inl (λ g less. absurd (omega (arith, less)))
  decided_below m F (suc n) le = go (decided_below m F n (omega arith)) (compare_maximal m C.0
      (maximal_from_full L m F) (maximal_from_full L C.0 (conjugate_full L n m C.0 within F C.1)))
    where
      below : (x : ℕ) → IsIn x m → x < order G
      below x h = (F.torsion x h).element

      within : n < order G
      within = omega (arith, le)

      C : (l : List ℕ) × IsConjugateBy G n m l
      C = conjugate_exists L n m within below

      only : (l : List ℕ) → IsConjugateBy G n m l → C.0 ≡ l
      only l K = same_conjugate n m C.0 l within C.1 K

      go : IsLeastBelow m n ⊎ (IsLeast G m → ⊥) → (m ≡ C.0) ⊎ IsBefore m C.0 ⊎ IsBefore C.0 m
          → IsLeastBelow m (suc n) ⊎ (IsLeast G m → ⊥)
      go (inr not) c = inr not
      go (inl f) (inl e) = inl (more m n f (λ l K. inl (e ∙ only l K)))
      go (inl f) (inr (inl b)) = inl (more m n f (λ l K. inr (subst (IsBefore m) (only l K) b)))
      go (inl f) (inr (inr b)) = inr (not_least L n m within below
          (λ l K. subst (λ l. IsBefore l m) (only l K) b))

  -- a full set is least in its class, or it is not
  least_or_not : (m : List ℕ) → IsFull G m → IsLeast G m ⊎ (IsLeast G m → ⊥)
  least_or_not m F = go (decided_below m F (order G) (omega arith))
    where
      go : IsLeastBelow m (order G) ⊎ (IsLeast G m → ⊥) → IsLeast G m ⊎ (IsLeast G m → ⊥)
      go (inl f) = inl (λ l C. f C.0 C.1 l C.2)
      go (inr not) = inr not

  blocked_or_not : (free barred : List ℕ) → IsBlocked G free barred ⊎ (IsBlocked G free barred → ⊥)
  blocked_or_not free [] = inr (λ b. absurd b.1)
  blocked_or_not free (x ∷ xs) = go (cases_Bool (all_commute G free x)) (blocked_or_not free xs)
    where
      go : (all_commute G free x ≡ true) ⊎ (all_commute G free x ≡ false)
          → IsBlocked G free xs ⊎ (IsBlocked G free xs → ⊥)
          → IsBlocked G free (x ∷ xs) ⊎ (IsBlocked G free (x ∷ xs) → ⊥)
      go (inl is) r = inl (x, inl refl, all_commute_to G free x is)
      go (inr not) (inl b) = inl (b.0, inr b.1, b.2)
      go (inr not) (inr none) = inr (λ b. elim b.1 [
        | inl e ↦ (let all = all_commute_from G free x (subst (λ y. CommutesWithAll G y free) e b.2) in
            let bad : false ≡ true = sym not ∙ all in cc)
        | inr k ↦ none (b.0, k, b.2)
      ])

  -- each place of the search has its full sets
  found : (fuel : ℕ) (chosen free barred : List ℕ) → length free ≤ fuel → IsPlace G chosen free barred
      → (ms : List (List ℕ)) × IsFound G chosen free ms
  found fuel chosen [] barred fits p = go (blocked_or_not [] barred)
    where
      go : IsBlocked G [] barred ⊎ (IsBlocked G [] barred → ⊥) → (ms : List (List ℕ)) × IsFound G chosen [] ms
      go (inl b) = ([], found_blocked chosen [] barred p b)
      go (inr n) = last (least_or_not chosen (full_at_end chosen barred p n))
        where
          last : IsLeast G chosen ⊎ (IsLeast G chosen → ⊥) → (ms : List (List ℕ)) × IsFound G chosen [] ms
          last (inl l) = (chosen ∷ [], found_least chosen barred p n l)
          last (inr not) = ([], found_not_least chosen not)
  found zero chosen (u ∷ rest) barred fits p = absurd (omega (arith, fits))
  found (suc fuel) chosen (u ∷ rest) barred fits p =
      let with : length (filter (commutes_test G u) rest) < length (u ∷ rest) =
      shorter_filter (u ∷ rest) u rest (filter (commutes_test G u) rest) (commutes_test G u) refl refl in
      let a = found fuel (chosen ++ u ∷ []) (filter (commutes_test G u) rest)
      (filter (commutes_test G u) barred)
      (omega (arith, with, fits)) (place_with chosen u rest barred p) in
      let b = found fuel chosen rest (barred ++ u ∷ []) (omega (arith, fits))
      (place_without chosen u rest barred p) in
      (a.0 ++ b.0, found_join chosen u rest barred a.0 b.0 p a.1 b.1)

  maximal_lists : (ms : List (List ℕ)) × IsMaximalElementaryList G ms
  maximal_lists =
      let torsion = filter (torsion_test G) (numbers (order G)) in
      let r = found (length torsion) [] torsion [] (omega arith) (place_start G) in
      (r.0, found_all L r.0 r.1)

  basis_from : (taken xs : List ℕ) → (basis : List ℕ) × IsBasisFrom G taken xs basis
  basis_from taken [] = (taken, refl)
  basis_from taken (x ∷ xs) = go (cases_Bool (member (numbering G taken) x)) (basis_from taken xs)
      (basis_from (taken ++ x ∷ []) xs)
    where
      go : (member (numbering G taken) x ≡ true) ⊎ (member (numbering G taken) x ≡ false)
          → (basis : List ℕ) × IsBasisFrom G taken xs basis
          → (basis : List ℕ) × IsBasisFrom G (taken ++ x ∷ []) xs basis
          → (basis : List ℕ) × IsBasisFrom G taken (x ∷ xs) basis
      go (inl is) r s = (r.0, inl (in_generated G taken x (member_to (numbering G taken) x is), r.1))
      go (inr not) r s = (
        s.0,
        inr (
          (λ g. let is = member_from (numbering G taken) x (generated_in G taken x g) in
              let bad : false ≡ true = sym not ∙ is in absurd (cc)),
          s.1,
        ),
      )

  listed : (ms : List (List ℕ)) → (ss : List NumberedSubgroup) × (members_of ss ≡ ms)
      × ((s : NumberedSubgroup) → IsIn s ss → IsNumbered G s)
  listed [] = ([], refl, λ s h. absurd h)
  listed (m ∷ ms) =
      let basis = basis_from [] m in
      let rest = listed ms in
      let s : NumberedSubgroup = record { basis = basis.0; members = m; images = numbering G basis.0 } in (
        s ∷ rest.0,
        ap (λ ns. m ∷ ns) rest.1,
        λ t h. elim h [
          | inl e ↦ subst (IsNumbered G) (sym e) (record { basis_is = basis.1; images_are = refl })
          | inr k ↦ rest.2 t k
        ],
      )

-- the list of maximal elementary abelian subgroups
pub subgroups_exist : (G : GroupTable) → IsGroupTable G → (ss : List NumberedSubgroup) × IsSubgroupList G ss
subgroups_exist G law =
    let L = law_of G law in
    let lists = maximal_lists L in
    let found = listed L lists.0 in (
      found.0,
      record {
        members_are = subst (IsMaximalElementaryList G) (sym found.1) lists.1;
        numbered = found.2;
      },
    )
