-- Vectors, rows and products.
use Rattle.std.proofs.Common.{◌≡◌, ◌≢◌, ℕ, zero, suc, ◌+◌, ◌<◌, ◌≤◌, ◌⊎◌, length, cond, true, false, eqb, inl}
use Rattle.std.proofs.Common.{inr, arith, ap, sym, ◌∙◌, refl}
use Rattle.std.proofs.lemmas.Bool.{cases_lt}
use Rattle.std.proofs.lemmas.Bool.Decides.{eqb_tells}
use Rattle.std.proofs.lemmas.List.{get_or_past, ext_get_or}
use Rattle.std.proofs.Math.Nat.{mod-eq_of_lt}
use native.Mathlib.Nat.{lt-suc_self}
use mathlib.Core.Path.{fun_ext, subst}
use Rattle.group_modules.specs.Field.{Below, residue}
use Rattle.linear_algebra.proofs.Residues.{below-path, residue-self}
use Rattle.group_modules.specs.Sums.{up}
use Rattle.group_modules.specs.Tables.{Group}
use Rattle.group_modules.specs.Resolutions.{rank}
use Rattle.linear_algebra.specs.Rows.{entry, IsRow}
use Rattle.radical_layers.specs.Coordinates.{Coordinates}
use Rattle.resolution_stages.specs.Definitions.{StageRows}
use Rattle.chain_maps.specs.Lifts.{ahead, product}
use Rattle.chain_maps.specs.Vectors.{Vector, vector, entries, extended}
use Rattle.chain_maps.specs.Claims.{ProductClaims, VectorClaims}

pub length-entries : {q : ℕ} (b : ℕ) (v : Vector q) → length (entries b v) ≡ b
length-entries zero v = refl
length-entries (suc b) v = ap suc (length-entries b (λ i. v (suc i)))

pub entry-entries : {q : ℕ} (b : ℕ) (v : Vector q) (k : ℕ) → k < b → entry (entries b v) k ≡ (v k).0
entry-entries zero v k l = absurd (omega (arith, l))
entry-entries (suc b) v zero l = refl
entry-entries (suc b) v (suc k) l = entry-entries b (λ i. v (suc i)) k (let m : k < b = omega (arith, l) in m)

pub entries-row : (q b : ℕ) (v : Vector q) → IsRow (suc q) b (entries b v)
entries-row q b v = record {
  length_is = length-entries b v;
  below = λ k l. subst (λ x. x < suc q) (sym (entry-entries b v k l)) (v k).1;
}

pub vector-claims : (q b : ℕ) → VectorClaims q b
vector-claims q b = record {
  is_row = entries-row q b;
  of_row = λ xs r. ext_get_or 0 (entries b (vector q xs)) xs (length-entries b (vector q xs)
      ∙ sym r.length_is)
      (λ k l. let m : k < b = (let e : length (entries b (vector q xs)) ≡ b = length-entries b
      (vector q xs) in omega (arith, e, l)) in
      entry-entries b (vector q xs) k m ∙ mod-eq_of_lt (r.below k m));
  of_vector = λ v z. fun_ext (λ k. of-vector v z k (cases_lt k b));
}
  where
    of-vector : (v : Vector q) → ((k : ℕ) → b ≤ k → v k ≡ residue q 0) → (k : ℕ) → (k < b) ⊎ (b ≤ k)
        → vector q (entries b v) k ≡ v k
    of-vector v z k (inl l) = ap (residue q) (entry-entries b v k l) ∙ residue-self q (v k)
    of-vector v z k (inr l) = ap (residue q)
        (get_or_past (entries b v) k 0 (let e : length (entries b v) ≡ b = length-entries b v in omega (
          arith,
          e,
          l,
        ))) ∙ sym (z k l)

pub extended-at : {q : ℕ} (b : ℕ) (c : Below b → Below (suc q)) (i : Below b) → extended b c i.0 ≡ c i
extended-at zero c i = absurd (let l : i.0 < 0 = i.1 in omega (arith, l))
extended-at {q} (suc b) c i = go (eqb_tells i.0 b) (λ (k : Below b). extended-at b (λ i. c (up i)) k)
  where
    go : ((eqb i.0 b ≡ true) × (i.0 ≡ b)) ⊎ ((eqb i.0 b ≡ false) × (i.0 ≢ b))
        → ((k : Below b) → extended b (λ i. c (up i)) k.0 ≡ c (up k))
        → cond (eqb i.0 b) (c (b, lt-suc_self b)) (extended b (λ i. c (up i)) i.0) ≡ c i
    go (inl h) ih = ap (λ t. cond t (c (b, lt-suc_self b)) (extended b (λ i. c (up i)) i.0)) h.0
        ∙ ap c (below-path (b, lt-suc_self b) i (sym h.1))
    go (inr h) ih =
        let k : Below b = (
          i.0,
          (let a : i.0 ≢ b = h.1 in let l : i.0 < suc b = i.1 in omega (
            arith,
            l,
            a,
          )),
        ) in
        ap (λ t. cond t (c (b, lt-suc_self b)) (extended b (λ i. c (up i)) i.0)) h.0 ∙ ih k
        ∙ ap c (below-path (up k) i refl)

pub extended-past : {q : ℕ} (b : ℕ) (c : Below b → Below (suc q)) (k : ℕ) → b ≤ k
    → extended b c k ≡ residue q 0
extended-past zero c k l = refl
extended-past {q} (suc b) c k l = go (eqb_tells k b) (λ (m : b ≤ k). extended-past b (λ i. c (up i)) k m)
  where
    go : ((eqb k b ≡ true) × (k ≡ b)) ⊎ ((eqb k b ≡ false) × (k ≢ b))
        → (b ≤ k → extended b (λ i. c (up i)) k ≡ residue q 0)
        → cond (eqb k b) (c (b, lt-suc_self b)) (extended b (λ i. c (up i)) k) ≡ residue q 0
    go (inl h) ih = absurd (let e : k ≡ b = h.1 in omega (arith, e, l))
    go (inr h) ih = ap (λ t. cond t (c (b, lt-suc_self b)) (extended b (λ i. c (up i)) k)) h.0
        ∙ ih (let z : b ≤ k = omega (arith, l) in z)

pub ahead-is : (e d : ℕ) → ahead e d ≡ d + e
ahead-is e zero = omega arith
ahead-is e (suc d) = omega (arith, ahead-is e d)

pub product-claims : {n : ℕ} (q : ℕ) (Γ : Group n) (K : Coordinates q Γ) (S : StageRows) (d e : ℕ)
    (v w : Vector q) → ProductClaims q Γ K S d e v w
product-claims q Γ K S d e v w = record {
  degree = ahead-is e d;
  each = λ i. extended-at (rank q Γ S.ranks (ahead e d)) (product q Γ K S e (λ i. w i.0) d (λ i. v i.0)) i;
  past = λ k l. extended-past (rank q Γ S.ranks (ahead e d)) (product q Γ K S e (λ i. w i.0) d (λ i. v i.0)) k
      (subst (λ m. rank q Γ S.ranks m ≤ k) (sym (ahead-is e d)) l);
}
