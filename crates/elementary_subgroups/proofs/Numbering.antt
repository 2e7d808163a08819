-- The numbering of the elements that a basis generates.
use Rattle.std.proofs.Common.{◌≡◌, ℕ, suc, ◌<◌, ◌+◌, ◌*◌, ◌/◌, ◌%◌, ◌^◌, List, [], ◌∷◌, ◌++◌, inl, inr, refl}
use Rattle.std.proofs.Common.{ap, sym, ◌∙◌, subst, arith, length, get_or}
use Rattle.std.proofs.lemmas.List.{length-append}
use Rattle.std.proofs.Math.Nat.{mod-eq_of_lt, mul-add-mod_self_right, mul-add-div_right, pow-suc, pow-zero}
use Rattle.std.proofs.Math.Nat.{div-lt_iff_lt-mul}
use Rattle.group_table.specs.Tables.{GroupTable, order, product, power}
use Rattle.elementary_subgroups.specs.Sets.{IsIn}
use Rattle.elementary_subgroups.specs.Cliques.{AreElements}
use Rattle.elementary_subgroups.specs.Bases.{embed, size, numbers, numbering, IsGenerated, IsBasisFrom}
use Rattle.elementary_subgroups.specs.Bases.{IsNumbered, NumberedSubgroup}
use Rattle.elementary_subgroups.proofs.GroupLaws.{HasGroupLaw, power_below}
use Rattle.elementary_subgroups.proofs.Members.{in_numbers, from_numbers}
use Rattle.elementary_subgroups.proofs.Lists.{in_map, from_map, length_map, length_numbers, at_map_numbers}

pub size_push : (G : GroupTable) (bs : List ℕ) (x : ℕ) → size G (bs ++ x ∷ []) ≡ G.p * size G bs
size_push G bs x = ap (λ n. G.p ^ n) (length-append bs (x ∷ []) ∙ one_more (length bs))
    ∙ pow-suc G.p (length bs) ∙ swap (G.p ^ length bs) G.p
  where
    one_more : (n : ℕ) → n + length (x ∷ []) ≡ suc n
    one_more n = omega arith

    swap : (a b : ℕ) → a * b ≡ b * a
    swap a b = omega arith

pub embed_below : {G : GroupTable} → HasGroupLaw G → (bs : List ℕ) (e : ℕ) → AreElements G bs →
    embed G bs e < order G
embed_below L [] e h = L.law.some
embed_below {G} L (b ∷ bs) e h = L.law.closed _ _ (power_below L b (e % G.p) (h b (inl refl)))
    (embed_below L bs (e / G.p) (λ x k. h x (inr k)))

-- the element with the number k q + e is that with the number e times x^k
pub embed_push : {G : GroupTable} → HasGroupLaw G → 0 < G.p → (bs : List ℕ) (x e k : ℕ) → AreElements G bs →
    x < order G → e < size G bs → k < G.p →
    embed G (bs ++ x ∷ []) (k * size G bs + e) ≡ product G (embed G bs e) (power G x k)
embed_push {G} L z [] x e k h i l m =
    let none : e < 1 = subst (λ w. e < w) one l in
    let q : k * size G [] + e ≡ k = ap (λ w. k * w + e) one ∙ alone k e none in
    ap (λ n. product G (power G x (n % G.p)) 0) q ∙ ap (λ n. product G (power G x n) 0) (mod-eq_of_lt m)
    ∙ L.law.mul-one (power G x k) (power_below L x k i)
    ∙ sym (L.law.one-mul (power G x k) (power_below L x k i))
  where
    one : G.p ^ 0 ≡ 1
    one = pow-zero G.p

    alone : (k e : ℕ) → e < 1 → k * 1 + e ≡ k
    alone k e h = omega arith
embed_push {G} L z (b ∷ bs) x e k h i l m =
    let s = size G bs in
    let grow : size G (b ∷ bs) ≡ s * G.p = pow-suc G.p (length bs) in
    let n : k * size G (b ∷ bs) + e ≡ (k * s) * G.p + e = ap (λ w. k * w + e) grow ∙ regroup k s G.p e in
    let e2 : e / G.p < s = (div-lt_iff_lt-mul z).1 (subst (λ w. e < w) grow l) in
    let bb : power G b (e % G.p) < order G = power_below L b (e % G.p) (h b (inl refl)) in
    ap (λ w. embed G (b ∷ bs ++ x ∷ []) w) n
    ∙ ap (λ w. product G (power G b w) (embed G (bs ++ x ∷ []) (((k * s) * G.p + e) / G.p)))
    (mul-add-mod_self_right (k * s) G.p e)
    ∙ ap (λ w. product G (power G b (e % G.p)) (embed G (bs ++ x ∷ []) w)) (mul-add-div_right z (k * s) e)
    ∙ ap (λ w. product G (power G b (e % G.p)) w) (embed_push L z bs x (e / G.p) k
    (λ y t. h y (inr t)) i e2 m)
    ∙ sym (L.law.mul-assoc (power G b (e % G.p)) (embed G bs (e / G.p)) (power G x k) bb
    (embed_below L bs (e / G.p) (λ y t. h y (inr t))) (power_below L x k i))
  where
    regroup : (k s p e : ℕ) → k * (s * p) + e ≡ (k * s) * p + e
    regroup k s p e = omega arith

pub generated_in : (G : GroupTable) (bs : List ℕ) (x : ℕ) → IsGenerated G bs x → IsIn x (numbering G bs)
generated_in G bs x g = let P : ℕ → Type 0 = λ w. IsIn w (numbering G bs) in
    subst P g.2 (in_map (embed G bs) g.0 (numbers (size G bs)) (in_numbers (size G bs) g.0 g.1))

pub in_generated : (G : GroupTable) (bs : List ℕ) (x : ℕ) → IsIn x (numbering G bs) → IsGenerated G bs x
in_generated G bs x h = let r = from_map (embed G bs) x (numbers (size G bs)) h in
    (r.0, from_numbers (size G bs) r.0 r.1, r.2)

pub basis_is_one : (G : GroupTable) (taken xs a b : List ℕ) → IsBasisFrom G taken xs a →
    IsBasisFrom G taken xs b → a ≡ b
basis_is_one G taken [] a b s t = s ∙ sym t
basis_is_one G taken (x ∷ xs) a b (inl s) (inl t) = basis_is_one G taken xs a b s.1 t.1
basis_is_one G taken (x ∷ xs) a b (inl s) (inr t) = absurd (t.0 s.0)
basis_is_one G taken (x ∷ xs) a b (inr s) (inl t) = absurd (s.0 t.0)
basis_is_one G taken (x ∷ xs) a b (inr s) (inr t) = basis_is_one G (taken ++ x ∷ []) xs a b s.1 t.1

pub numbering_elements : {G : GroupTable} → HasGroupLaw G → (bs : List ℕ) → AreElements G bs →
    AreElements G (numbering G bs)
numbering_elements {G} L bs h x k = let g = in_generated G bs x k in
    let P : ℕ → Type 0 = λ w. w < order G in subst P g.2 (embed_below L bs g.0 h)

pub images_length : {G : GroupTable} (s : NumberedSubgroup) → IsNumbered G s →
    length s.images ≡ size G s.basis
images_length {G} s N = ap length N.images_are ∙ length_map (embed G s.basis) (numbers (size G s.basis))
    ∙ length_numbers (size G s.basis)

pub image_at : {G : GroupTable} (s : NumberedSubgroup) → IsNumbered G s → (e : ℕ) → e < size G s.basis →
    get_or s.images e 0 ≡ embed G s.basis e
image_at {G} s N e h = ap (λ l. get_or l e 0) N.images_are
    ∙ at_map_numbers (embed G s.basis) (size G s.basis) e h
