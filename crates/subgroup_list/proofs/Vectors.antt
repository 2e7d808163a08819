-- Lists of vectors as lists of lists.
use Rattle.std.proofs.Common.{◌≡◌, ℕ, zero, suc, ◌<◌, ◌+◌, List, [], ◌∷◌, ◌++◌, inl, inr, refl, ap, sym, ◌∙◌}
use Rattle.std.proofs.Common.{arith, length, get_or, take}
use Rattle.std.specs.Prelude.{Vec}
use Rattle.std.proofs.lemmas.List.{take_more}
use Rattle.elementary_subgroups.specs.Sets.{IsIn}
use Rattle.subgroup_list.specs.Search.{lists}

pub lists_push : {A : Type 0} (vs : List (Vec ℕ A)) (v : Vec ℕ A) (m : List ℕ) → v.items ≡ m →
    lists (vs ++ v ∷ []) ≡ lists vs ++ m ∷ []
lists_push [] v m e = ap (λ l. l ∷ []) e
lists_push (w ∷ vs) v m e = ap (λ l. w.items ∷ l) (lists_push vs v m e)

pub lists_at : {A : Type 0} (vs : List (Vec ℕ A)) (k : ℕ) (d : Vec ℕ A) → k < length vs →
    IsIn (get_or vs k d).items (lists vs)
lists_at [] k d h = absurd (omega arith)
lists_at (v ∷ vs) zero d h = inl refl
lists_at (v ∷ vs) (suc k) d h = inr (lists_at vs k d (omega arith))

pub lists_take : {A : Type 0} (vs : List (Vec ℕ A)) (k : ℕ) (v : Vec ℕ A) → k < length vs →
    v ≡ get_or vs k v → lists (take (k + 1) vs) ≡ lists (take k vs) ++ v.items ∷ []
lists_take vs k v h e = ap lists (take_more vs k v h) ∙ ap (λ w. lists (take k vs ++ w ∷ [])) (sym e)
    ∙ lists_push (take k vs) v v.items refl
