-- The records of a stage file: the parts of a stage as bytes. All numbers are big-endian.
use Rattle.std.specs.Prelude.{ℕ, suc, zero, ◌+◌, ◌*◌, List, ◌++◌, length, codes, nat_le, if◌then◌else◌}
use Rattle.std.specs.declared.option.Option.{Option}
use Rattle.std.specs.declared.option.Option.TheVariants.{None, Some}
use Rattle.std.specs.Int.{w16, w32, to_be_bytes}
use Rattle.std.specs.List.{concat, flat_map}
use Rattle.sha2.specs.Sha256.{sha256}
use Rattle.resolution_stages.specs.Definitions.{StageRows}
use Rattle.resolution_stages.specs.Checks.{StageParts}
use Rattle.resolution_stages.specs.Chain.{parts_of}
use Rattle.stage_records.specs.declared.TheConstants.{GREATEST_WIDTH}

-- the positions, which a file counts from 1
unfoldable pub position_bytes : List ℕ → List ℕ
position_bytes positions = flat_map (λ i. to_be_bytes w16 (i + 1)) positions

-- the degree, the rank, the positions of the boundary's rows, the rows of the kernel, and the sections of
-- the rows of the list before
unfoldable pub body : ℕ → StageParts → List ℕ
body d Q = to_be_bytes w16 d ++ (to_be_bytes w16 (length Q.positions)
    ++ (position_bytes Q.positions ++ (concat Q.kernel ++ concat Q.sections)))

-- the number of bytes after the length, for b rows of the boundary and a free module of dimension D
abbrev pub record_length : ℕ → ℕ → ℕ
record_length b D = 36 + 2 * b + D * D

-- the length, the body and its digest, over a free module of this width
unfoldable pub record_of_width : (width d : ℕ) → StageParts → List ℕ
record_of_width width d Q = to_be_bytes w32 (record_length (length Q.positions) width)
    ++ (body d Q ++ sha256 (body d Q))

-- the record of degree d with these parts, over a group of this order
abbrev pub record_bytes : (order d : ℕ) → StageParts → List ℕ
record_bytes order d Q = record_of_width (order * length Q.positions) d Q

-- the dimension of the free module of degree d + 1
abbrev pub dimension_after : ℕ → StageRows → ℕ → ℕ
dimension_after order S d = order * length (S.positions d)

-- the record of each degree from 1 on whose free module is no wider than a record holds
abbrev pub record_at : ℕ → StageRows → ℕ → Option (List ℕ)
record_at order S zero = None
record_at order S (suc d) =
    if nat_le (dimension_after order S d) GREATEST_WIDTH
    then Some (record_bytes order (suc d) (parts_of S d)) else None

-- the eight letters, and the digest of the presentation's canonical text
unfoldable pub header_bytes : List ℕ → List ℕ
header_bytes text = codes "cohostg1" ++ sha256 text
