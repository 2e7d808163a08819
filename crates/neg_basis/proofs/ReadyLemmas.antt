-- What the work passes on, with another row or at the field and width of its vectors.
use Rattle.std.proofs.Common.{◌≡◌, ℕ, ◌<◌, [], map, replicate, ap, sym, ◌∙◌, refl}
use Rattle.linear_algebra.specs.Rows.{pivot, IsRow}
use Rattle.fp_rows.specs.Values.{RowValue}
use Rattle.neg_basis.specs.Founds.{IsReady}
use Rattle.neg_basis.specs.declared.found.Found.{Found}
use Rattle.neg_basis.proofs.BasisLemmas.{no_vectors}
use Rattle.neg_basis.proofs.ImageLemmas.{row_of_zeros}

pub ready_with : {p width : ℕ} {found : Found} {v : RowValue} (w : RowValue) → IsReady p width found v
    → w.p ≡ p → IsRow p width w.entries → IsReady p width found w
ready_with w h e r = record {
  same_field = h.same_field;
  same_width = h.same_width;
  basis = h.basis;
  heads_are = h.heads_are;
  prime = e;
  row = r;
}

pub ready_at : {p width : ℕ} {found : Found} {v : RowValue} → IsReady p width found v
    → IsReady found.vectors.p found.vectors.width found v
ready_at h = record {
  same_field = refl;
  same_width = refl;
  basis = rw (h.same_field, h.same_width) h.basis;
  heads_are = h.heads_are;
  prime = h.prime ∙ sym h.same_field;
  row = rw (h.same_field, h.same_width) h.row;
}

pub ready_start : {p width : ℕ} (found : Found) (v : RowValue) → 1 < p → found.vectors.p ≡ p
    → found.vectors.width ≡ width → found.vectors.rows ≡ [] → found.heads.items ≡ [] → v.p ≡ p
    → v.entries ≡ replicate width 0 → IsReady p width found v
ready_start {p} {width} found v one field width_is none heads prime zeros = record {
  same_field = field;
  same_width = width_is;
  basis = rw none no_vectors;
  heads_are = heads ∙ sym (ap (map pivot) none);
  prime = prime;
  row = rw zeros (row_of_zeros width one);
}
