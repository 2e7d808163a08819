-- Of a finite set in a strict total order there is a list of the first so many, and a first one that
-- passes or none.
use Rattle.std.proofs.Common.{◌≡◌, ◌⊎◌, inl, inr, ℕ, zero, suc, ◌+◌, ◌≤◌, List, [], ◌∷◌, ◌++◌, length}
use Rattle.std.proofs.Common.{take, refl, sym, ◌∙◌, ap, subst, arith, append_assoc}
use Rattle.std.specs.Prelude.{MatchOption, Option, Some, None}
use Rattle.std.specs.List.{AllByRecursion as Each}
use Rattle.std.proofs.lemmas.List.{append-nil}
use Rattle.param_test.specs.Firsts.{IsOneOf, IsAscending, AreFirst, IsFirstPassing, NonePasses}
use Rattle.param_test.proofs.Lists.{each-map, each-snoc}
use Rattle.coho_report.proofs.FirstLists.{fewer}

-- the members of xs that are in the set
module _ {X : Type 0} (In : X → Type 0) (decide : (x : X) → In x ⊎ (In x → ⊥)) where
  record AreMembers (xs ys : List X) : Type 0 where
    inside : Each In ys
    all : (y : X) → In y → IsOneOf y xs → IsOneOf y ys

  one-more : (x : X) (xs ys : List X) → AreMembers xs ys → In x ⊎ (In x → ⊥)
      → (zs : List X) × AreMembers (x ∷ xs) zs
  one-more x xs ys M (inl m) = (x ∷ ys, record { inside = (m, M.inside); all = λ y k o. here y k o })
    where
      here : (y : X) → In y → IsOneOf y (x ∷ xs) → IsOneOf y (x ∷ ys)
      here y k (inl e) = inl e
      here y k (inr o) = inr (M.all y k o)
  one-more x xs ys M (inr not) = (ys, record { inside = M.inside; all = λ y k o. here y k o })
    where
      here : (y : X) → In y → IsOneOf y (x ∷ xs) → IsOneOf y ys
      here y k (inl e) = absurd (not (subst In e k))
      here y k (inr o) = M.all y k o

  members : (xs : List X) → (ys : List X) × AreMembers xs ys
  members [] = ([], record { inside = tt; all = λ y m o. o })
  members (x ∷ xs) = let m = members xs in one-more x xs m.0 m.1 (decide x)

  pub members_of : (xs : List X)
      → (ys : List X) × Each In ys × ((y : X) → In y → IsOneOf y xs → IsOneOf y ys)
  members_of xs = let m = members xs in (m.0, m.1.inside, m.1.all)

module _ {X : Type 0} (In : X → Type 0) (B : X → X → Type 0) (self : (x : X) → B x x → ⊥)
    (trans : (x y z : X) → B x y → B y z → B x z)
    (compare : (x y : X) → In x → In y → (x ≡ y) ⊎ (B x y ⊎ B y x)) where
  -- ws is zs with x
  record IsInserted (x : X) (zs ws : List X) : Type 0 where
    members : Each In ws
    ascending : IsAscending B ws
    here : IsOneOf x ws
    kept : (y : X) → IsOneOf y zs → IsOneOf y ws
    later : (w : X) → B w x → Each (λ y. B w y) zs → Each (λ y. B w y) ws

  stays : (z : X) (zs ws : List X) → ((y : X) → IsOneOf y zs → IsOneOf y ws) → (y : X) → IsOneOf y (z ∷ zs)
      → IsOneOf y (z ∷ ws)
  stays z zs ws k y (inl e) = inl e
  stays z zs ws k y (inr o) = inr (k y o)

  behind : (x z : X) (zs ws : List X) → In z → Each (λ y. B z y) zs → B z x → IsInserted x zs ws
      → IsInserted x (z ∷ zs) (z ∷ ws)
  behind x z zs ws m h b r = record {
    members = (m, r.members);
    ascending = (r.later z b h, r.ascending);
    here = inr r.here;
    kept = λ y o. stays z zs ws r.kept y o;
    later = λ w c k. (k.0, r.later w c k.1);
  }

  ahead : (x z : X) (zs : List X) → In x → Each In (z ∷ zs) → IsAscending B (z ∷ zs) → B x z
      → IsInserted x (z ∷ zs) (x ∷ (z ∷ zs))
  ahead x z zs m M A b = record {
    members = (m, M);
    ascending = ((b, each-map zs (λ y c. trans x z y b c) A.0), A);
    here = inl refl;
    kept = λ y o. inr o;
    later = λ w c h. (c, h);
  }

  insert : (x : X) → In x → (zs : List X) → Each In zs → IsAscending B zs
      → (ws : List X) × IsInserted x zs ws
  insert x m [] M A = (
    x ∷ [],
    record {
      members = (m, tt);
      ascending = (tt, tt);
      here = inl refl;
      kept = λ y o. absurd o;
      later = λ w b h. (b, tt);
    },
  )
  insert x m (z ∷ zs) M A = go (compare x z m M.0) (insert x m zs M.1 A.1)
    where
      go : (x ≡ z) ⊎ (B x z ⊎ B z x) → (ws : List X) × IsInserted x zs ws
          → (ws : List X) × IsInserted x (z ∷ zs) ws
      go (inl e) r = (
        z ∷ zs,
        record { members = M; ascending = A; here = inl e; kept = λ y o. o; later = λ w b h. h },
      )
      go (inr (inl b)) r = (x ∷ (z ∷ zs), ahead x z zs m M A b)
      go (inr (inr b)) r = (z ∷ r.0, behind x z zs r.0 M.0 A.0 b r.1)

  sorted : (all : List X) → Each In all
      → (zs : List X) × Each In zs × IsAscending B zs × ((y : X) → IsOneOf y all → IsOneOf y zs)
  sorted [] M = ([], tt, tt, λ y o. o)
  sorted (x ∷ xs) M =
      let s = sorted xs M.1 in
      let r = insert x M.0 s.0 s.1 s.2 in
      (r.0, r.1.members, r.1.ascending, λ y o. there s.0 s.3 r.0 r.1 y o)
    where
      there : (zs : List X) → ((y : X) → IsOneOf y xs → IsOneOf y zs) → (ws : List X) → IsInserted x zs ws
          → (y : X) → IsOneOf y (x ∷ xs) → IsOneOf y ws
      there zs k ws r y (inl e) = subst (λ y. IsOneOf y ws) (sym e) r.here
      there zs k ws r y (inr o) = r.kept y (k y o)

  -- all members stand in a list, so there are the first n
  pub first_exist : (all : List X) → Each In all → ((y : X) → In y → IsOneOf y all) → (n : ℕ)
      → (xs : List X) × AreFirst In B n xs
  first_exist all M whole n =
      let s = sorted all M in (
        take n s.0,
        fewer B self trans In (length s.0 + n) n s.0 (omega arith) (record {
          members = s.1;
          ascending = s.2;
          at_most = omega arith;
          others = λ y k. inl (s.3 y (whole y k));
        }),
      )

  front : (before : List X) (t : X) (after : List X)
      → take (suc (length before)) (before ++ t ∷ after) ≡ before ++ t ∷ []
  front [] t after = refl
  front (x ∷ before) t after = ap (λ xs. x ∷ xs) (front before t after)

  front-is : (before : List X) (t : X) (after : List X)
      → take (length before + 1) (before ++ t ∷ after) ≡ before ++ t ∷ []
  front-is before t after =
      let same : length before + 1 ≡ suc (length before) = omega arith in
      ap (λ k. take k (before ++ t ∷ after)) same ∙ front before t after

  longer : (before : List X) (t : X) (after : List X) (n : ℕ) → length (before ++ t ∷ after) ≤ n
      → length before + 1 ≤ n
  longer [] t after n le = omega (arith, le)
  longer (x ∷ before) t after zero le = absurd (omega (arith, le))
  longer (x ∷ before) t after (suc n) le =
      let l = longer before t after n (omega (arith, le)) in omega (arith, l)

  module _ (n : ℕ) (Passes : X → Type 0) (decide : (t : X) → In t → Passes t ⊎ (Passes t → ⊥)) where
    abbrev Found : Type 0
    Found = (o : Option X)
        × MatchOption o (NonePasses In B n Passes) (λ t. IsFirstPassing In B n Passes t)

    at-place : (before : List X) (t : X) (after : List X) → Each In (before ++ t ∷ after) → In t
    at-place [] t after M = M.0
    at-place (x ∷ before) t after M = at-place before t after M.1

    scan : (before after : List X) → AreFirst In B n (before ++ after)
        → Each (λ x. Passes x → ⊥) before → Found
    scan before [] F fail =
        (None, record { tried = before; first = subst (AreFirst In B n) (append-nil before) F; fail = fail })
    scan before (t ∷ after) F fail = go (decide t (at-place before t after F.members))
        (λ not. scan (before ++ t ∷ []) after
        (subst (AreFirst In B n) (sym (append_assoc before (t ∷ []) after)) F)
        (each-snoc (λ x. Passes x → ⊥) before t fail not))
      where
        go : Passes t ⊎ (Passes t → ⊥) → ((Passes t → ⊥) → Found) → Found
        go (inl p) later =
            let le = longer before t after n F.at_most in (
              Some t,
              record {
                earlier = before;
                first = subst (AreFirst In B (length before + 1)) (front-is before t after)
                    (fewer B self trans In n (length before + 1) (before ++ t ∷ after) le F);
                among = omega (arith, le);
                fail = fail;
                pass = p;
              },
            )
        go (inr not) later = later not

    pub found_exists : (all : List X) → Each In all → ((y : X) → In y → IsOneOf y all) → Found
    found_exists all M whole = let first = first_exist all M whole n in scan [] first.0 first.1 tt
