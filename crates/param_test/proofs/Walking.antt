-- A walk in order through the members of any set.
use Rattle.std.proofs.Common.{◌≡◌, ℕ, ◌+◌, ◌<◌, ◌≤◌, ◌⊎◌, inl, inr, List, [], ◌∷◌, ◌++◌, length, arith}
use Rattle.std.specs.List.{AllByRecursion as Each}
use Rattle.param_test.specs.Firsts.{IsOneOf, AreFirst, IsFirstPassing, NonePasses}
use Rattle.param_test.specs.Walks.{IsWalked}
use Rattle.param_test.proofs.Lists.{each-map, each-snoc, ascending-snoc, one-of-left, one-of-last}
use Rattle.param_test.proofs.Lists.{length-snoc}

module _ {X : Type 0} (In : X → Type 0) (B : X → X → Type 0) (Passes : X → Type 0) where
  -- nothing is past at first
  pub walked-start : (P : X → Type 0) → ((y : X) → In y → P y → ⊥) → IsWalked In B Passes P []
  walked-start P h =
      record { members = tt; ascending = tt; fail = tt; past = tt; all = λ y m p. absurd (h y m p) }

  -- the same members are past
  pub walked-same : (P Q : X → Type 0) (tried : List X) → ((y : X) → In y → P y → Q y)
      → ((y : X) → In y → Q y → P y)
      → IsWalked In B Passes P tried → IsWalked In B Passes Q tried
  walked-same P Q tried f g w = record {
    members = w.members;
    ascending = w.ascending;
    fail = w.fail;
    past = both tried w.members w.past;
    all = λ y m q. w.all y m (g y m q);
  }
    where
      both : (xs : List X) → Each In xs → Each P xs → Each Q xs
      both [] m p = tt
      both (x ∷ xs) m p = (f x m.0 p.0, both xs m.1 p.1)

  -- t is tried and does not pass
  pub walked-more : (P Q : X → Type 0) (tried : List X) (t : X) → In t → (Passes t → ⊥)
      → ((x : X) → P x → B x t)
      → ((y : X) → P y → Q y) → Q t → ((y : X) → In y → Q y → P y ⊎ (y ≡ t))
      → IsWalked In B Passes P tried → IsWalked In B Passes Q (tried ++ t ∷ [])
  walked-more P Q tried t m f b s q g w = record {
    members = each-snoc In tried t w.members m;
    ascending = ascending-snoc B tried t w.ascending (each-map tried b w.past);
    fail = each-snoc (λ x. Passes x → ⊥) tried t w.fail f;
    past = each-snoc Q tried t (each-map tried s w.past) q;
    all =
        λ y n h. elim (g y n h) as (λ _. IsOneOf y (tried ++ t ∷ []))
        [ inl p ↦ one-of-left tried (t ∷ []) y (w.all y n p) | inr e ↦ one-of-last tried y t e ];
  }

  -- y is among tried, or after all of them, which are n
  abbrev pub Other : ℕ → List X → X → Type 0
  Other n tried y = IsOneOf y tried ⊎ ((length tried ≡ n) × Each (λ x. B x y) tried)

  -- t passes
  pub walked-found : (P : X → Type 0) (tried : List X) (n : ℕ) (t : X) → In t → Passes t → length tried < n
      → ((x : X) → P x → B x t)
      → ((x y z : X) → B x y → B y z → B x z)
      → ((y : X) → In y → P y ⊎ (y ≡ t) ⊎ B t y)
      → IsWalked In B Passes P tried → IsFirstPassing In B n Passes t
  walked-found P tried n t m p l b trans g w = record {
    earlier = tried;
    first = record {
      members = each-snoc In tried t w.members m;
      ascending = ascending-snoc B tried t w.ascending (each-map tried b w.past);
      at_most = let e : length (tried ++ t ∷ []) ≡ length tried + 1 = length-snoc tried t in omega arith;
      others = λ y k. elim (g y k) as (λ _. Other (length tried + 1) (tried ++ t ∷ []) y) [
        | inl a ↦ inl (one-of-left tried (t ∷ []) y (w.all y k a))
        | inr a ↦ elim a as (λ _. Other (length tried + 1) (tried ++ t ∷ []) y) [
          | inl e ↦ inl (one-of-last tried y t e)
          | inr c ↦
              inr (
                length-snoc tried t,
                each-snoc (λ x. B x y) tried t (each-map tried (λ x h. trans x t y (b x h) c) w.past) c,
              )
        ]
      ];
    };
    among = l;
    fail = w.fail;
    pass = p;
  }

  -- n were tried, or all
  pub walked-first : (P : X → Type 0) (tried : List X) (n : ℕ) → length tried ≤ n
      → ((y : X) → In y → P y ⊎ ((length tried ≡ n) × ((x : X) → P x → B x y)))
      → IsWalked In B Passes P tried → AreFirst In B n tried
  walked-first P tried n l g w = record {
    members = w.members;
    ascending = w.ascending;
    at_most = l;
    others = λ y k. elim (g y k) as (λ _. IsOneOf y tried ⊎ ((length tried ≡ n) × Each (λ x. B x y) tried))
        [ inl a ↦ inl (w.all y k a) | inr a ↦ inr (a.0, each-map tried a.1 w.past) ];
  }

  pub walked-end : (P : X → Type 0) (tried : List X) (n : ℕ) → length tried ≤ n
      → ((y : X) → In y → P y ⊎ ((length tried ≡ n) × ((x : X) → P x → B x y)))
      → IsWalked In B Passes P tried → NonePasses In B n Passes
  walked-end P tried n l g w = record { tried = tried; first = walked-first P tried n l g w; fail = w.fail }
