-- The stage file of the group of two elements: each of its records has the same parts.
use Rattle.std.proofs.Common.{◌≡◌, ℕ, List, [], ◌∷◌, ◌++◌, length, take, refl, arith}
use Rattle.std.proofs.lemmas.List.{length-append}
use Rattle.sha2.specs.Sha256.{sha256}
use Rattle.sha2.proofs.Facts256.{length-sha256}
use Rattle.stage_records.specs.Records.{body, record_bytes, record_of_width, position_bytes, header_bytes}
use Rattle.stage_records.specs.Walks.{stage_bytes, records_from}
use Rattle.stage_records.specs.Examples.{two_elements, two_records}
use Rattle.stage_records.proofs.Verdict.{header-size}

pub front_of_two : take 14 (record_bytes 2 1 two_elements) ≡ 0 ∷ 0 ∷ 0 ∷ 0x2a ∷ 0 ∷ 1 ∷ 0 ∷ 1 ∷ 0 ∷ 1 ∷ 0 ∷ 1
    ∷ 1 ∷ 0 ∷ []
unfolding record_of_width body position_bytes
front_of_two = refl

length-two : (d : ℕ) → length (record_bytes 2 d two_elements) ≡ 46
unfolding record_of_width body position_bytes
length-two d = let e : length (sha256 (body d two_elements)) ≡ 32 = length-sha256 (body d two_elements) in
    omega (arith, e)

pub size_of_two : (text : List ℕ) → length (stage_bytes (header_bytes text) two_records 3) ≡ 178
unfolding stage_bytes records_from
size_of_two text =
    let R : List ℕ = record_bytes 2 3 two_elements ++ [] in
    omega (
      arith,
      header-size text,
      length-append (header_bytes text)
          (record_bytes 2 1 two_elements ++
          (record_bytes 2 2 two_elements ++ (record_bytes 2 3 two_elements ++ []))),
      length-append (record_bytes 2 1 two_elements)
          (record_bytes 2 2 two_elements ++ (record_bytes 2 3 two_elements ++ [])),
      length-append (record_bytes 2 2 two_elements) (record_bytes 2 3 two_elements ++ []),
      length-append (record_bytes 2 3 two_elements) [],
      length-two 1,
      length-two 2,
      length-two 3,
    )
