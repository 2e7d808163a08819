use Rattle.std.proofs.Common.{◌≡◌, ℕ, suc, ◌-◌, ◌<◌, ◌↔◌, List, All, length, arith, ap, sym, subst, ◌∙◌}
use Rattle.fp_rows.specs.Values.{MatrixValue}
use Rattle.linear_algebra.specs.Rows.{IsEchelonOf}
use Rattle.ring_completion.specs.Candidates.{AreSome, IsListed}
use Rattle.ring_degree.specs.Critical.{IsCriticalRow}
use Rattle.ring_degree.specs.Rests.{AreRests}
use Rattle.ring_degree.specs.Tables.{AreMatrices, rows_at}
use Rattle.ring_completion.proofs.LeftPlaces.{as-many}
use Rattle.ring_degree.proofs.StepFound.{found, found-step, all-primes, all-widths, rests-shape, left-some}
use Rattle.ring_degree.proofs.StepFound.{low-of}
use Rattle.ring_degree.proofs.step.next_degree.Goals as goal

pub critical-requires : goal.critical-requires
critical-requires c =
    let g = c.args.gens.now in
    let tables = c.args.tables.now in
    record {
      pairs = record {
        small = c.requires.small;
        below = c.requires.below;
        tables_are = c.requires.tables;
        forms_are = subst (λ w. AreMatrices g tables (length tables) w c.deref.result.now)
            (sym c.len.ensures.value)
            (subst (AreMatrices g tables (length tables) (length c.in_ok-list.list))
            (sym c.deref.ensures.value) c.in_ok-forms.ensures.shape);
      };
    }

pub reduced_matrices-requires-clause-primes : goal.reduced_matrices-requires-clause-primes
reduced_matrices-requires-clause-primes c =
    subst (All (λ (m : MatrixValue). m.p ≡ c.in_ok-leading.leading.p)) (sym c.deref-2.ensures.value)
    (all-primes c.args.gens.now c.args.tables.now (length c.in_ok-list.list) c.in_ok-forms.forms.items
    c.in_ok-forms.ensures.count c.requires.below c.in_ok-forms.ensures.shape c.in_ok-leading.leading.p
    (c.in_ok-leading.ensures.prime ∙ c.in_ok-critical.ensures.prime))

pub reduced_matrices-requires-clause-widths : goal.reduced_matrices-requires-clause-widths
reduced_matrices-requires-clause-widths c =
    subst (All (λ (m : MatrixValue). m.width ≡ c.in_ok-leading.leading.width)) (sym c.deref-2.ensures.value)
    (all-widths c.args.gens.now c.args.tables.now (length c.in_ok-list.list) c.in_ok-forms.forms.items
    c.in_ok-forms.ensures.count c.requires.below c.in_ok-forms.ensures.shape c.in_ok-leading.leading.width
    (c.in_ok-leading.ensures.width ∙ c.in_ok-critical.ensures.width ∙ c.len.ensures.value))

pub reduced_matrices-requires-clause-left : goal.reduced_matrices-requires-clause-left
reduced_matrices-requires-clause-left c v e =
    as-many c.in_ok-leading.leading.rows 0 v c.in_ok-list.list
    (e ∙ c.in_ok-leading.ensures.width ∙ c.in_ok-critical.ensures.width ∙ c.len.ensures.value)
    ∙ sym (c.len-2.ensures.value ∙ ap (λ (ms : List (List ℕ)). length ms) c.in_ok-left.ensures)

pub returns-clause-left : goal.returns-clause-left
returns-clause-left c =
    let g = c.args.gens.now in
    let tables = c.args.tables.now in
    subst (AreSome (g.prime - 1) g.degrees (length tables)) (sym c.in_ok-left.ensures)
    (left-some (g.prime - 1) g.degrees tables
    (low-of g.degrees (length tables) c.modulus-prime.ensures.valid c.requires.below)
    c.requires.tables.monomials c.in_ok-list.list c.in_ok-list.ensures c.in_ok-leading.leading.rows)

pub returns-clause-shape : goal.returns-clause-shape
returns-clause-shape c =
    rests-shape c.args.gens.now c.args.tables.now (length c.in_ok-list.list) c.in_ok-forms.forms.items
    c.in_ok-forms.ensures.count c.requires.below c.in_ok-forms.ensures.shape c.in_ok-leading.leading.p
    (length c.in_ok-left.left) c.in_ok-leading.leading.rows c.in_ok-reduced.reduced.items
    (c.in_ok-leading.ensures.prime ∙ c.in_ok-critical.ensures.prime)
    (c.in_ok-reduced.ensures.count ∙ ap (λ (ms : List MatrixValue). length ms) c.deref-2.ensures.value)
    c.in_ok-reduced.ensures.primes
    (subst (λ w. All (λ (m : MatrixValue). m.width ≡ w) c.in_ok-reduced.reduced.items) c.len-2.ensures.value
    c.in_ok-reduced.ensures.widths)
    c.in_ok-reduced.ensures.matrices
    (subst (λ (ms : List MatrixValue). (i : ℕ) → i < length ms → AreRests c.in_ok-leading.leading.p
    c.in_ok-leading.leading.rows (rows_at ms i) (rows_at c.in_ok-reduced.reduced.items i))
    c.deref-2.ensures.value c.in_ok-reduced.ensures.rows)

pub returns-clause-step : goal.returns-clause-step
returns-clause-step c G gs rs e B =
    let g = c.args.gens.now in
    let tables = c.args.tables.now in
    let rows = c.in_ok-critical.field-0.rows in
    let reduced = c.in_ok-leading.leading.rows in
    found-step (g.prime - 1) (length tables - 1) g.degrees G gs rs tables c.in_ok-list.list
    c.in_ok-forms.forms.items rows reduced
    (record {
      candidates = c.in_ok-candidates.candidates;
      left = c.in_ok-left.left;
      forms = c.in_ok-reduced.reduced;
    })
    (found g tables c.in_ok-leading.leading.p c.len.result c.in_ok-list.list c.in_ok-forms.forms.items rows
    reduced
    (record {
      candidates = c.in_ok-candidates.candidates;
      left = c.in_ok-left.left;
      forms = c.in_ok-reduced.reduced;
    })
    c.modulus-prime.ensures.valid c.requires.below c.requires.tables
    (c.in_ok-leading.ensures.prime ∙ c.in_ok-critical.ensures.prime
    ∙ (let z : c.args.gens.now.prime ≡ suc (c.args.gens.now.prime - 1) =
    omega (arith, c.modulus-prime.ensures.low, c.modulus-prime.ensures.value) in z))
    c.len.ensures.value c.in_ok-list.ensures c.in_ok-forms.ensures.rows c.in_ok-forms.ensures.count
    (subst (λ (forms : List MatrixValue). (v : List ℕ) → IsListed rows v
    ↔ IsCriticalRow (g.prime - 1) g.degrees tables c.len.result forms v) c.deref.ensures.value
    c.in_ok-critical.ensures.rows)
    (subst (λ p. IsEchelonOf p c.len.result rows reduced) (sym c.in_ok-leading.ensures.prime)
    (subst (λ w. IsEchelonOf c.in_ok-critical.field-0.p w rows reduced) c.in_ok-critical.ensures.width
    c.in_ok-leading.ensures.rows))
    c.in_ok-left.ensures
    (subst (λ (ms : List MatrixValue). (i : ℕ) → i < length ms → AreRests c.in_ok-leading.leading.p
    reduced (rows_at ms i) (rows_at c.in_ok-reduced.reduced.items i))
    c.deref-2.ensures.value c.in_ok-reduced.ensures.rows)
    c.in_ok-candidates.ensures)
    e B
