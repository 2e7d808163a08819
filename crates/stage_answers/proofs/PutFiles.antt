-- Bytes that were put under a path.
use Rattle.std.proofs.Common.{◌≡◌, ◌∙◌, ℕ, List, Bool, true, false, cond, refl, sym, ap}
use Rattle.std.specs.declared.option.Option.TheVariants.{Some}
use Rattle.std.specs.FinMap.{get, get-insert}
use Rattle.std.specs.Str.{bytes_eq}
use Rattle.std.specs.Cmp.Lexicographic.{nat_list_cmp_total}
use Rattle.std.proofs.lemmas.Map.Text.{is_eq-slice_cmp}
use Rattle.std.proofs.lemmas.Slice.Eq.{bytes_eq-Decides}
use Rattle.coho_io.specs.Content.{Content, file, or_outside, with_file}

-- what was saved leaves every path that the words do not save to
pub other_file : (c : Content) (save path bytes : List ℕ) → (save ≡ path → ⊥)
    → file (with_file c save bytes) path ≡ file c path
other_file c save path bytes apart =
    ap (or_outside c.outside_is_empty) (get-insert nat_list_cmp_total c.files save bytes path
    ∙ ap (λ b. cond b (Some bytes) (get c.files path)) (is_eq-slice_cmp path save
    ∙ differ (bytes_eq path save) refl))
  where
    differ : (b : Bool) → bytes_eq path save ≡ b → bytes_eq path save ≡ false
    differ false e = e
    differ true e = absurd (apart (sym ((bytes_eq-Decides path save).0 e)))

-- and is there
pub there_file : (c : Content) (path bytes : List ℕ) → file (with_file c path bytes) path ≡ Some bytes
there_file c path bytes =
    ap (or_outside c.outside_is_empty) (get-insert nat_list_cmp_total c.files path bytes path
    ∙ ap (λ b. cond b (Some bytes) (get c.files path)) (is_eq-slice_cmp path path
    ∙ (bytes_eq-Decides path path).1 refl))
