-- Parts of bytes that are joined from pieces.
use Rattle.std.proofs.Common.{append_assoc, ◌≡◌, ℕ, ◌+◌, ◌≤◌, List, ◌++◌, length, take, drop, ap, ◌∙◌, arith}
use Rattle.std.proofs.Math.Seq.{take-add}
use Rattle.std.proofs.lemmas.List.{take_at, drop_at, length-append, drop-drop}
use Rattle.stage_records.specs.Readings.{part}

pub part-at : (xs ys zs : List ℕ) (from len : ℕ) → length xs ≡ from → length ys ≡ len
    → part from len (xs ++ (ys ++ zs)) ≡ ys
part-at xs ys zs from len e f = ap (λ (x : List ℕ). take len x) (drop_at xs (ys ++ zs) from e)
    ∙ take_at ys zs len f

-- a part of two parts
pub part-split : (from n m : ℕ) (bytes : List ℕ)
    → part from (n + m) bytes ≡ part from n bytes ++ part (from + n) m bytes
part-split from n m bytes = take-add n m (drop from bytes)
    ∙ ap (λ (x : List ℕ). take n (drop from bytes) ++ take m x) (drop-drop n from bytes)

-- five parts
pub part-five : (p k s : ℕ) (bytes : List ℕ)
    → part 4 (4 + p + (k + s)) bytes ≡ part 4 2 bytes ++
    (part 6 2 bytes ++ (part 8 p bytes ++ (part (8 + p) k bytes ++ part (8 + p + k) s bytes)))
part-five p k s bytes =
    let e : 4 + p + (k + s) ≡ 2 + (2 + (p + (k + s))) = omega arith in
    ap (λ (n : ℕ). part 4 n bytes) e ∙ part-split 4 2 (2 + (p + (k + s))) bytes
    ∙ ap (λ (x : List ℕ). part 4 2 bytes ++ x) (part-split 6 2 (p + (k + s)) bytes
    ∙ ap (λ (x : List ℕ). part 6 2 bytes ++ x) (part-split 8 p (k + s) bytes
    ∙ ap (λ (x : List ℕ). part 8 p bytes ++ x) (part-split (8 + p) k s bytes)))

-- pieces of known lengths, one after another
module _ (A B C P K S H rest : List ℕ) (p k s : ℕ) (a : length A ≡ 4) (b : length B ≡ 2) (c : length C ≡ 2)
    (lp : length P ≡ p) (lk : length K ≡ k) (ls : length S ≡ s) (lh : length H ≡ 32) where
  abbrev pub all : List ℕ
  all = A ++ (B ++ (C ++ (P ++ (K ++ (S ++ (H ++ rest))))))

  pub of-record : (A ++ ((B ++ (C ++ (P ++ (K ++ S)))) ++ H)) ++ rest ≡ all
  of-record = simp append_assoc

  pub first-four : take 4 all ≡ A
  first-four = take_at A (B ++ (C ++ (P ++ (K ++ (S ++ (H ++ rest)))))) 4 a

  pub at-degree : part 4 2 all ≡ B
  at-degree = part-at A B (C ++ (P ++ (K ++ (S ++ (H ++ rest))))) 4 2 a b

  pub at-rank : part 6 2 all ≡ C
  at-rank =
      let e : all ≡ (A ++ B) ++ (C ++ (P ++ (K ++ (S ++ (H ++ rest))))) = simp append_assoc in
      ap (λ (x : List ℕ). part 6 2 x) e
      ∙ part-at (A ++ B) C (P ++ (K ++ (S ++ (H ++ rest)))) 6 2 (omega (arith, length-append A B, a, b)) c

  pub at-positions : part 8 p all ≡ P
  at-positions =
      let e : all ≡ (A ++ (B ++ C)) ++ (P ++ (K ++ (S ++ (H ++ rest)))) = simp append_assoc in
      ap (λ (x : List ℕ). part 8 p x) e
      ∙ part-at (A ++ (B ++ C)) P (K ++ (S ++ (H ++ rest))) 8 p
      (omega (arith, length-append A (B ++ C), length-append B C, a, b, c)) lp

  pub at-kernel : part (8 + p) k all ≡ K
  at-kernel =
      let e : all ≡ (A ++ (B ++ (C ++ P))) ++ (K ++ (S ++ (H ++ rest))) = simp append_assoc in
      ap (λ (x : List ℕ). part (8 + p) k x) e
      ∙ part-at (A ++ (B ++ (C ++ P))) K (S ++ (H ++ rest)) (8 + p) k
      (omega (
        arith,
        length-append A (B ++ (C ++ P)),
        length-append B
            (C ++ P),
        length-append C P,
        a,
        b,
        c,
        lp,
      )) lk

  pub at-sections : part (8 + p + k) s all ≡ S
  at-sections =
      let e : all ≡ (A ++ (B ++ (C ++ (P ++ K)))) ++ (S ++ (H ++ rest)) = simp append_assoc in
      ap (λ (x : List ℕ). part (8 + p + k) s x) e
      ∙ part-at (A ++ (B ++ (C ++ (P ++ K)))) S (H ++ rest) (8 + p + k) s
      (omega (
        arith,
        length-append A (B ++ (C ++ (P ++ K))),
        length-append B
            (C ++ (P ++ K)),
        length-append C (P ++ K),
        length-append P K,
        a,
        b,
        c,
        lp,
        lk,
      )) ls

  pub at-entries : part (8 + p) (k + s) all ≡ K ++ S
  at-entries =
      let e : all ≡ (A ++ (B ++ (C ++ P))) ++ ((K ++ S) ++ (H ++ rest)) = simp append_assoc in
      ap (λ (x : List ℕ). part (8 + p) (k + s) x) e
      ∙ part-at (A ++ (B ++ (C ++ P))) (K ++ S) (H ++ rest) (8 + p) (k + s)
      (omega (
        arith,
        length-append A (B ++ (C ++ P)),
        length-append B
            (C ++ P),
        length-append C P,
        a,
        b,
        c,
        lp,
      )) (omega (arith, length-append K S, lk, ls))

  length-body : length (B ++ (C ++ (P ++ (K ++ S)))) ≡ 4 + p + (k + s)
  length-body = omega (
    arith,
    length-append B (C ++ (P ++ (K ++ S))),
    length-append C
        (P ++ (K ++ S)),
    length-append P (K ++ S),
    length-append K S,
    b,
    c,
    lp,
    lk,
    ls,
  )

  pub at-body : part 4 (4 + p + (k + s)) all ≡ B ++ (C ++ (P ++ (K ++ S)))
  at-body =
      let e : all ≡ A ++ ((B ++ (C ++ (P ++ (K ++ S)))) ++ (H ++ rest)) = simp append_assoc in
      ap (λ (x : List ℕ). part 4 (4 + p + (k + s)) x) e
      ∙ part-at A (B ++ (C ++ (P ++ (K ++ S)))) (H ++ rest) 4 (4 + p + (k + s)) a length-body

  pub at-digest : part (4 + (4 + p + (k + s))) 32 all ≡ H
  at-digest =
      let e : all ≡ (A ++ (B ++ (C ++ (P ++ (K ++ S))))) ++ (H ++ rest) = simp append_assoc in
      ap (λ (x : List ℕ). part (4 + (4 + p + (k + s))) 32 x) e
      ∙ part-at (A ++ (B ++ (C ++ (P ++ (K ++ S))))) H rest (4 + (4 + p + (k + s))) 32
      (omega (arith, length-append A (B ++ (C ++ (P ++ (K ++ S)))), length-body, a)) lh

  pub length-all : 4 + (4 + p + (k + s) + 32) ≤ length all
  length-all =
      let e : all ≡ (A ++ (B ++ (C ++ (P ++ (K ++ S))))) ++ (H ++ rest) = simp append_assoc in
      omega (
        arith,
        ap length e,
        length-append (A ++ (B ++ (C ++ (P ++ (K ++ S)))))
            (H ++ rest),
        length-append A (B ++ (C ++ (P ++ (K ++ S)))),
        length-append H rest,
        length-body,
        a,
        lh,
      )
