-- The text that the program cuts line by line is read as the text of all lines.
use Rattle.std.proofs.Common.{◌≡◌, ℕ, ◌+◌, List, [], ◌∷◌, drop, Option, Some, None, Result, Ok, Err, refl}
use Rattle.std.proofs.Common.{◌∙◌}
use Rattle.std.specs.Prelude.{option_and_then}
use Rattle.pc_text.specs.declared.fault.Kind.{Kind}
use Rattle.pc_text.specs.declared.fault.Kind.TheVariants as kind
use Rattle.pc_text.specs.Faults.{Fault, ◌>>=◌, expect, in_line}
use Rattle.pc_text.specs.Lines.{Line, lines_from, lines, cut_at}
use Rattle.pc_text.specs.Words.{by_number}
use Rattle.pc_text.specs.Texts.{Content, relations, content, reads, first_bytes, header, prime_line}
use Rattle.pc_text.specs.Texts.{count_line}
use Rattle.pc_text.specs.Cuts.{by_cuts, checked}
use Rattle.pc_text.proofs.CutLemmas.{cut_some, cut_none}
use Rattle.pc_text.proofs.LineLemmas.{line_ended}

-- the first of these lines is of its form
first_is : {A : Type 0} → Kind → ℕ → (List ℕ → Option A) → List Line → Result A Fault
first_is kind n form ls = in_line n (expect kind 1 (option_and_then form (first_bytes ls)))

after_count : ℕ → ℕ → List Line → Result Content Fault
after_count p n ls = relations (by_number p n) [] ls >>= λ found. Ok
    (record { prime = p; gens = n; relations = found })

after_prime : ℕ → List Line → Result Content Fault
after_prime p ls = first_is kind.BadCount 3 count_line ls >>= λ n. after_count p n (drop 1 ls)

after_header : List Line → Result Content Fault
after_header ls = first_is kind.BadPrime 2 prime_line ls >>= λ p. after_prime p (drop 1 ls)

nested : List Line → Result Content Fault
nested ls = first_is kind.BadHeader 1 header ls >>= λ _. after_header (drop 1 ls)

is_nested : (ls : List Line) → nested ls ≡ reads ls
unfolding nested after_header after_prime after_count first_is
is_nested [] = refl
is_nested (x ∷ []) = refl
is_nested (x ∷ y ∷ []) = refl
is_nested (x ∷ y ∷ z ∷ ls) = refl

open_first : (n : ℕ) (text : List ℕ) → cut_at 10 text ≡ None → first_bytes (lines_from n text) ≡ None
open_first n [] e = refl
open_first n (b ∷ text) e = rw (cut_none 10 (b ∷ text) e) refl

abbrev paired : {A : Type 0} → List ℕ → A → Result (A × List ℕ) Fault
paired rest y = Ok (y, rest)

bound : {A B : Type 0} (rest : List ℕ) (go : A → List ℕ → Result B Fault) (next : A → Result B Fault)
    → ((x : A) → go x rest ≡ next x) → (r : Result A Fault)
    → ((r >>= paired rest) >>= λ x. go x.0 x.1) ≡ (r >>= next)
bound rest go next same (Ok y) = same y
bound rest go next same (Err e) = refl

step_from : {A B : Type 0} (kind : Kind) (n : ℕ) (form : List ℕ → Option A) (text : List ℕ) (go : A → List ℕ
    → Result B Fault) (next : A → List Line → Result B Fault)
    → ((x : A) (rest : List ℕ) → go x rest ≡ next x (lines_from (n + 1) rest))
    → (cut : Option (List ℕ × List ℕ)) → cut_at 10 text ≡ cut
    → (checked kind n form cut >>= λ x. go x.0 x.1) ≡
    (first_is kind n form (lines_from n text) >>= λ x. next x (drop 1 (lines_from n text)))
unfolding first_is
step_from kind n form text go next same None e = rw (open_first n text e) refl
step_from kind n form text go next same (Some x) e =
    rw (line_ended n text x.0 x.1 (cut_some 10 text x e))
    (bound x.1 go (λ y. next y (lines_from (n + 1) x.1)) (λ y. same y x.1)
    (in_line n (expect kind 1 (form x.0))))

go_count : ℕ → ℕ → List ℕ → Result Content Fault
go_count p n rest = relations (by_number p n) [] (lines_from 4 rest) >>= λ found. Ok
    (record { prime = p; gens = n; relations = found })

go_prime : ℕ → List ℕ → Result Content Fault
go_prime p rest = checked kind.BadCount 3 count_line (cut_at 10 rest) >>= λ n. go_count p n.0 n.1

go_header : Unit {0} → List ℕ → Result Content Fault
go_header _ rest = checked kind.BadPrime 2 prime_line (cut_at 10 rest) >>= λ p. go_prime p.0 p.1

same_count : (p n : ℕ) (rest : List ℕ) → go_count p n rest ≡ after_count p n (lines_from 4 rest)
unfolding go_count after_count
same_count p n rest = refl

same_prime : (p : ℕ) (rest : List ℕ) → go_prime p rest ≡ after_prime p (lines_from 3 rest)
unfolding go_prime after_prime
same_prime p rest = step_from kind.BadCount 3 count_line rest (go_count p) (after_count p) (same_count p)
    (cut_at 10 rest) refl

same_header : (u : Unit {0}) (rest : List ℕ) → go_header u rest ≡ after_header (lines_from 2 rest)
unfolding go_header after_header
same_header u rest = step_from kind.BadPrime 2 prime_line rest go_prime after_prime same_prime
    (cut_at 10 rest) refl

nested_by_cuts : (text : List ℕ) → by_cuts text ≡ nested (lines text)
unfolding by_cuts nested go_header go_prime go_count
nested_by_cuts text = step_from kind.BadHeader 1 header text go_header (λ _. after_header) same_header
    (cut_at 10 text) refl

pub content_by_cuts : (text : List ℕ) → by_cuts text ≡ content text
content_by_cuts text = nested_by_cuts text ∙ is_nested (lines text)
