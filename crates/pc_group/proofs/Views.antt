-- What the fields of a presentation stand for.
use Rattle.std.proofs.Common.{◌≡◌, ℕ, sym, ◌∙◌, ap, ◌-◌, ◌<◌, List, map, length, get_or, lit<}
use Rattle.std.specs.Vec.{with_item}
use Rattle.std.proofs.lemmas.List.{get_or-map, map-set}
use Rattle.smallvec.specs.SmallVec.{SmallVec}
use Rattle.group_table.specs.declared.Prime.{Prime}
use Rattle.group_table.specs.declared.Prime.TheVariants.{P2, P3, P5, P7}
use Rattle.group_table.specs.Prime.{prime_value}
use Rattle.pc_group.specs.declared.presentation.Presentation.TheInside.{Inside}
use Rattle.pc_group.specs.Parts.{with_power}
use Rattle.pc_group.specs.Shown.{shown}

pub shown-powers : (s : Inside) (i : ℕ) (w : SmallVec ℕ)
    → shown (record s { powers = with_item s.powers (i - 1) w }) ≡ with_power (shown s) i w.items
shown-powers s i w = ap (λ ws. record (shown s) { powers = ws })
    (map-set (λ v. v.items) s.powers.items (i - 1) w)

-- what an element of a list stands for
pub entry-shown : {X Y : Type 0} (xs : List X) (k : ℕ) (x : X) (f : X → Y) (d : Y) → k < length xs
    → x ≡ get_or xs k x → get_or (map f xs) k d ≡ f x
entry-shown xs k x f d l e = get_or-map f xs k x d l ∙ ap f (sym e)

pub prime_value-above : (p : Prime) → 1 < prime_value p
prime_value-above P2 = lit< tt
prime_value-above P3 = lit< tt
prime_value-above P5 = lit< tt
prime_value-above P7 = lit< tt
