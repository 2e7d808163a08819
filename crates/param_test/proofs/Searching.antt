-- The ends of the search.
use Rattle.std.proofs.Common.{◌≡◌, ℕ, ◌<◌, ◌≤◌, List, [], length, arith, sym, subst}
use Rattle.std.specs.Prelude.{All, slice_index_or}
use Rattle.param_test.specs.Firsts.{IsFirstPassing, NonePasses}
use Rattle.param_test.specs.Tuples.{IsTuple}
use Rattle.param_test.proofs.Lists.{each-last}
use Rattle.param_test.proofs.Steps.{ascends-all, room-le}

-- no tuple has more members than there are candidates
pub too-few : (n r k : ℕ) (B : List ℕ → List ℕ → Type 0) (Passes : List ℕ → Type 0) → n < r
    → NonePasses (IsTuple n r) B k Passes
too-few n r k B Passes l = record {
  tried = [];
  first = record {
    members = tt;
    ascending = tt;
    at_most = omega arith;
    others =
        λ t m. absurd (let a = room-le n 0 t (omega arith) m.ascends in omega (arith, a, l, m.length_is));
  };
  fail = tt;
}

-- the members of the tuple that is found are numbers of candidates
pub found-small : (n r k m : ℕ) (B : List ℕ → List ℕ → Type 0) (Passes : List ℕ → Type 0) (t s : List ℕ)
    → IsFirstPassing (IsTuple n r) B k Passes t → n ≤ m
    → s ≡ t → All (λ i. i ≤ m) s
found-small n r k m B Passes t s h l e i d b =
    let T = each-last (IsTuple n r) h.earlier t h.first.members in
    let a = ascends-all 0 n n t (omega arith) T.ascends i d (subst (λ t. i < length t) e b) in
    subst (λ s. slice_index_or s i d ≤ m) (sym e) (omega (arith, a, l))
