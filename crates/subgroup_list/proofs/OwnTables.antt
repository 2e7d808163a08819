-- The table of an elementary abelian group, entry by entry.
use Rattle.std.proofs.Common.{◌≡◌, ℕ, zero, suc, ◌<◌, ◌≤◌, ◌+◌, ◌*◌, ◌/◌, ◌%◌, ◌^◌, ◌-◌, List, ap, sym, ◌∙◌}
use Rattle.std.proofs.Common.{subst, arith, length}
use Rattle.std.proofs.Math.Nat.{pow-suc}
use Rattle.group_table.specs.Tables.{GroupTable, IsTable, IsGroupTable, order, order_is}
use Rattle.group_table.specs.declared.Prime.{Prime}
use Rattle.group_table.specs.Prime.{prime_value}
use Rattle.elementary_subgroups.specs.Bases.{IsSubgroupOf, NumberedSubgroup}
use Rattle.elementary_subgroups.specs.OwnGroups.{digit_sum, elementary_group, IsOwnGroup}
use Rattle.elementary_subgroups.proofs.GroupLaws.{law_of}
use Rattle.elementary_subgroups.proofs.ElementaryGroups.{elementary_is_group, elementary_is_table}
use Rattle.elementary_subgroups.proofs.OwnGroup.{own_is, own_rank, own_small}
use Rattle.elementary_subgroups.proofs.Powers.{above_one}

-- the sum of rank digits from that of the others
pub digit_step : (p rank a b d : ℕ) → 0 < rank → d ≡ digit_sum p (rank - 1) (a / p) (b / p) →
    d * p + (a % p + b % p) % p ≡ digit_sum p rank a b
digit_step p zero a b d h e = absurd (omega arith)
digit_step p (suc r) a b d h e =
    let s : suc r - 1 ≡ r = omega arith in
    ap (λ w. w * p + (a % p + b % p) % p) (e ∙ ap (λ k. digit_sum p k (a / p) (b / p)) s)

pub step_below : (p rank d x : ℕ) → 0 < rank → d < p ^ (rank - 1) → x < p → d * p + x < p ^ rank
step_below p zero d x h i j = absurd (omega arith)
step_below p (suc r) d x h i j =
    let s : suc r - 1 ≡ r = omega arith in
    rw (pow-suc p r) (digit d (p ^ r) p x (subst (λ k. d < p ^ k) s i) j)
  where
    digit : (r s p d : ℕ) → r < s → d < p → r * p + d < s * p
    digit r s p d a b = grind arith

pub step_small : (p rank : ℕ) → 0 < rank → 0 < p → p ^ rank ≤ 256 → p ^ (rank - 1) ≤ 256
step_small p zero h z i = absurd (omega arith)
step_small p (suc r) h z i =
    let s : suc r - 1 ≡ r = omega arith in
    let e = pow-suc p r in
    rw s (smaller (p ^ r) p z (rw e at i))
  where
    smaller : (s p : ℕ) → 0 < p → s * p ≤ 256 → s ≤ 256
    smaller s p a b = grind arith

-- what the code makes from the prime, the rank and the entries
pub made_is : (p n r : ℕ) (q : ℕ) (entries : List ℕ) → p ≡ q → n ≡ r →
    entries ≡ (elementary_group p n).entries →
    record { p = p; n = n; entries = entries } ≡ elementary_group q r
made_is p n r q entries e f g =
    ap (λ l. record { p = p; n = n; entries = l }) g ∙ ap (λ w. elementary_group w n) e
    ∙ ap (λ w. elementary_group q w) f

module _ (G : GroupTable) (L : IsGroupTable G) (q : Prime) (e : prime_value q ≡ G.p) (s : NumberedSubgroup)
    (S : IsSubgroupOf G s) where
  above : 1 < G.p
  above = subst (λ w. 1 < w) e (above_one q)

  pub rank_small : order G ≤ 256 → length s.basis < 256
  rank_small h =
      let r = own_rank (law_of G L) q (sym e) above s S in
      let t = own_small (law_of G L) q (sym e) above s S in
      omega (arith, r, t)

  pub size_small : order G ≤ 256 → prime_value q ^ length s.basis ≤ 256
  size_small h =
      let t = own_small (law_of G L) q (sym e) above s S in
      rw e (omega (arith, t))

  pub order_small : order G ≤ 256 → order (elementary_group G.p (length s.basis)) ≤ 256
  order_small h = rw (order_is (elementary_group G.p (length s.basis)), ← e) (size_small h)

  pub own_table : IsTable (elementary_group G.p (length s.basis))
  own_table = elementary_is_table G.p (length s.basis) (let z = above in omega arith)

  pub own_law : IsGroupTable (elementary_group G.p (length s.basis))
  own_law = elementary_is_group G.p (length s.basis) (let z = above in omega arith)

  pub own_group : IsOwnGroup G s (elementary_group G.p (length s.basis))
  own_group = own_is (law_of G L) q (sym e) above s S
