-- The value at a row of the map along an embedding: the sum over the blocks of the row, and over the
-- elements of the subgroup.
use Rattle.std.proofs.Common.{◌≡◌, ℕ, suc, ◌+◌, ◌*◌, ◌%◌, ◌<◌, List, length, get_or, replicate, arith, ap}
use Rattle.std.proofs.Common.{ap₂, sym, ◌∙◌}
use Rattle.std.proofs.lemmas.List.{ext_get_or}
use Rattle.std.proofs.Math.Nat.{mod-eq_of_lt}
use mathlib.Core.Path.{subst, fun_ext}
use Rattle.group_table.specs.Tables.{order}
use Rattle.group_modules.specs.Module.{Module, times}
use Rattle.group_modules.specs.Field.{Below, residue}
use Rattle.group_modules.specs.Sums.{below, total}
use Rattle.group_modules.specs.Tables.{monoid, terms}
use Rattle.linear_algebra.specs.Rows.{entry, row, add_multiple, IsRow}
use Rattle.linear_algebra.proofs.Residues.{below-path}
use Rattle.p_groups.specs.PGroups.{PGroup, largest_residue, group}
use Rattle.p_groups.proofs.Fields.{residues}
use Rattle.group_algebra.specs.Coordinates.{free_module, layer_coordinates, row_of, table_of, AreCoefficients}
use Rattle.group_algebra.specs.RowMaps.{IsBlock}
use Rattle.group_algebra.proofs.BlockSums.{block, block-is, block-table}
use Rattle.group_algebra.proofs.ImageLemmas.{zero-table, row-back}
use Rattle.chain_maps.specs.Vectors.{entries, extended}
use Rattle.chain_maps.proofs.Vectors.{length-entries, entry-entries, extended-at}
use Rattle.chain_lift.specs.Embeddings.{element_of}
use Rattle.chain_lift.specs.EmbeddingRows.{listed, translates, value_along}
use Rattle.chain_lift.proofs.EmbeddingSums.{total-last, terms-along, added-table}

module _ (G : PGroup) (images : List ℕ) (b : ℕ) where
  abbrev M : Module (suc (largest_residue G)) (monoid (group G))
  M = free_module G b

  -- c_k times the translate of v by the element at place k
  abbrev pub translate : (c v : List ℕ) → ℕ → M.of
  translate c v k = times M.add M.zero (entry c k) (M.act (element_of G (get_or images k 0)) (table_of G b v))

  -- the sum of the first k of these is added to old
  pub record HasGained (c v old : List ℕ) (k : ℕ) (out : List ℕ) : Type 0 where
    pub sum : table_of G b out ≡ M.add (table_of G b old) (total M (below k) (λ e. translate c v e.0))

  pub gained-start : (c v old : List ℕ) → HasGained c v old 0 old
  gained-start c v old = record { sum = sym (M.add-zero (table_of G b old)) }

  gained-step : (c v old out new : List ℕ) (k : ℕ) → HasGained c v old k out
      → table_of G b new ≡ M.add (table_of G b out) (translate c v k) → HasGained c v old (k + 1) new
  gained-step c v old out new k S e = record {
    sum = e ∙ ap (λ t. M.add t (translate c v k)) S.sum
        ∙ M.add-assoc (table_of G b old) (total M (below k) (λ e. translate c v e.0)) (translate c v k)
        ∙ ap (M.add (table_of G b old)) (sym (total-last M k (translate c v))
        ∙ ap (λ n. total M (below n) (λ e. translate c v e.0)) (let z : suc k ≡ k + 1 = omega arith in z));
  }

  -- a place where c is 0
  pub gained-none : (c v old out new : List ℕ) (k : ℕ) → HasGained c v old k out → entry c k ≡ 0 → new ≡ out
      → HasGained c v old (k + 1) new
  gained-none c v old out new k S z e = gained-step c v old out new k S
      (ap (table_of G b) e ∙ sym (M.add-zero (table_of G b out))
      ∙ ap (λ n. M.add (table_of G b out) (times M.add M.zero n
      (M.act (element_of G (get_or images k 0)) (table_of G b v)))) (sym z))

  -- a place where the multiple of a translate was added
  pub gained-some : (c v old out new moved : List ℕ) (k a : ℕ) → HasGained c v old k out
      → IsRow G.table.p (order G.table * b) out
      → a ≡ entry c k
      → (g : Below (order G.table)) → g.0 ≡ get_or images k 0 → moved ≡ row_of G b (M.act g (table_of G b v))
      → new ≡ add_multiple G.table.p a out moved → HasGained c v old (k + 1) new
  gained-some c v old out new moved k a S r f g h m e = gained-step c v old out new k S (ap (table_of G b) e
      ∙ added-table G b a out moved (M.act g (table_of G b v)) r m
      ∙ ap₂ (λ n z. M.add (table_of G b out) (times M.add M.zero n (M.act z (table_of G b v)))) f same)
    where
      same : g ≡ element_of G (get_or images k 0)
      same = below-path g (element_of G (get_or images k 0))
          (sym (mod-eq_of_lt g.1) ∙ ap (λ n. n % order G.table) h)

  -- all places
  pub gained-all : (c v old out : List ℕ) (k : ℕ) → k ≡ length c → HasGained c v old k out
      → table_of G b out ≡ M.add (table_of G b old) (translates G b images c v)
  gained-all c v old out k e S = S.sum ∙ ap (λ n. M.add (table_of G b old)
      (total M (below n) (λ e. translate c v e.0))) e

  module _ (E : PGroup) (rows : List (List ℕ)) (x : List ℕ) where
    -- the coefficients of block k, by element number
    abbrev coefficients : ℕ → List ℕ
    coefficients k = entries (order E.table) (extended (order E.table)
        (table_of E 1 (block E (length rows) x k) (residue 0 0)))

    coefficient : (k : ℕ) (g : Below (order E.table))
        → entry (coefficients k) g.0 ≡ (table_of E 1 (block E (length rows) x k) (residue 0 0) g).0
    coefficient k g = entry-entries (order E.table) (extended (order E.table)
        (table_of E 1 (block E (length rows) x k) (residue 0 0))) g.0 g.1
        ∙ ap (λ (c : Below (suc (largest_residue E))). c.0)
        (extended-at (order E.table) (table_of E 1 (block E (length rows) x k) (residue 0 0)) g)

    coefficients-are : (k : ℕ) (a c : List ℕ) → IsBlock E (length rows) k x a
        → AreCoefficients E c (table_of E 1 a) → c ≡ coefficients k
    coefficients-are k a c B C = ext_get_or 0 c (coefficients k)
        (C.is_row.length_is ∙ sym (length-entries (order E.table) _))
        (λ j l. let i : j < order E.table = (let e : length c ≡ order E.table = C.is_row.length_is in
        omega (arith, e, l)) in
        C.each (j, i) ∙ ap (λ y. (table_of E 1 y (residue 0 0) (j, i)).0) (block-is E (length rows) x k a B)
        ∙ sym (coefficient k (j, i)))

    -- what block k adds
    abbrev term : ℕ → M.of
    term k = translates G b images (coefficients k) (row rows k)

    -- the sum over the first k blocks
    pub record IsPartialValue (k : ℕ) (out : List ℕ) : Type 0 where
      pub sum : table_of G b out ≡ total M (below k) (λ i. term i.0)

    pub value-start : (out : List ℕ) → out ≡ replicate (order G.table * b) 0 → IsPartialValue 0 out
    value-start out e = record { sum = ap (table_of G b) e ∙ zero-table G b }

    pub value-step : (k : ℕ) (out a c v new : List ℕ) → IsPartialValue k out → IsBlock E (length rows) k x a
        → AreCoefficients E c (table_of E 1 a) → v ≡ row rows k
        → table_of G b new ≡ M.add (table_of G b out) (translates G b images c v) → IsPartialValue (k + 1) new
    value-step k out a c v new S B C g n = record {
      sum = n ∙ ap₂ M.add S.sum (ap₂ (translates G b images) (coefficients-are k a c B C) g)
          ∙ sym (total-last M k term)
          ∙ ap (λ n. total M (below n) (λ i. term i.0)) (let z : suc k ≡ k + 1 = omega arith in z);
    }

    module _ (r : IsRow E.table.p (order E.table * length rows) x) where
      block-sum : (i : Below (length rows)) → term i.0 ≡ total M (below (order E.table))
          (λ g. times M.add M.zero (table_of E (length rows) x i g).0
          (M.act (listed E G images g) (table_of G b (row rows i.0))))
      block-sum i = ap (λ n. total M (below n) (λ e. translate (coefficients i.0) (row rows i.0) e.0))
          (length-entries (order E.table) _)
          ∙ ap (total M (below (order E.table))) (fun_ext (λ (g : Below (order E.table)).
          ap (λ n. times M.add M.zero n (M.act (listed E G images g) (table_of G b (row rows i.0))))
          (coefficient i.0 g ∙ ap (λ (t : (free_module E 1).of). (t (residue 0 0) g).0)
          (block-table E (length rows) x (subst (λ p. IsRow p (order E.table * length rows) x)
          (sym (residues E)) r) i))))

      pub value-end : (out : List ℕ) (k : ℕ) → k ≡ length rows → IsPartialValue k out
          → IsRow G.table.p (order G.table * b) out
          → out ≡ value_along E G (listed E G images) b rows x
      value-end out k e S w = row-back G b out _ w (S.sum ∙ ap (λ n. total M (below n) (λ i. term i.0)) e
          ∙ ap (total M (below (length rows))) (fun_ext block-sum)
          ∙ sym (terms-along (largest_residue E) (group E) M (listed E G images) (length rows)
          (λ (k : Below (length rows)). table_of G b (row rows k.0)) (table_of E (length rows) x)
          (below (length rows))))
