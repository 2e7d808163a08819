-- The ranks of a resolution are the dimensions of the cohomology.
use Rattle.std.proofs.Common.{◌≡◌, ◌∙◌, ℕ, zero, suc, ◌+◌, [], ◌∷◌, ◌++◌, sym, ap, subst, arith}
use Rattle.std.specs.List.{range_with_len}
use Rattle.p_groups.specs.PGroups.{PGroup}
use Rattle.min_res.specs.Stages.{rank_of}
use Rattle.group_cocycles.specs.Dimensions.{IsDimension}
use Rattle.group_cocycles.proofs.Dimensions.{rank-is-dimension}
use Rattle.coho_report.specs.Related.{AreRelated}
use Rattle.coho_report.specs.Reports.{ranks_below}
use Rattle.coho_report.proofs.Related.{related-append}

one-more : (a n : ℕ) → range_with_len a (suc n) ≡ range_with_len a n ++ (a + n) ∷ []
one-more a zero = ap (λ k. k ∷ []) (omega arith)
one-more a (suc n) =
    ap (λ xs. a ∷ xs)
    (one-more (a + 1) n
    ∙ ap (λ k. range_with_len (a + 1) n ++ k ∷ []) (let e : a + 1 + n ≡ a + suc n = omega arith in e))

pub ranks-are-dimensions : (G : PGroup) (c : ℕ)
    → AreRelated (IsDimension G) (range_with_len 0 c) (ranks_below G c)
ranks-are-dimensions G zero = tt
ranks-are-dimensions G (suc c) =
    subst (λ ds. AreRelated (IsDimension G) ds (ranks_below G (suc c))) (sym (one-more 0 c))
    (related-append (IsDimension G) (range_with_len 0 c) ((0 + c) ∷ []) (ranks_below G c) (rank_of G c ∷ [])
    (ranks-are-dimensions G c)
    (subst (λ d. IsDimension G d (rank_of G c)) (omega arith) (rank-is-dimension G c), tt))
