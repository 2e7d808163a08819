-- What the steps of a reading that ended well have given.
use Rattle.std.proofs.Common.{◌≡◌, ℕ, ◌≤◌, ◌<◌, ◌&&◌, Bool, true, false, cond, leb, ltb, Option, Some, None}
use Rattle.std.proofs.Common.{Result, Ok, Err, refl, ap, arith}
use Rattle.std.specs.Prelude.{option_and_then}
use Rattle.std.proofs.lemmas.Bool.Decides.{nat_tests}
use Rattle.pc_text.specs.declared.fault.Kind.{Kind}
use Rattle.pc_text.specs.Faults.{◌>>=◌, expect, require, in_line}
use Rattle.pc_text.specs.declared.fault.LineFault.{LineFault}

pub bind_ok : {A B E : Type 0} (m : Result A E) (f : A → Result B E) (y : B) → (m >>= f) ≡ Ok y → (x : A)
    × (m ≡ Ok x) × (f x ≡ Ok y)
bind_ok (Ok x) f y h = (x, refl, h)
bind_ok (Err e) f y h = absurd (let g : Err e ≡ Ok y = h in cc)

pub ok_same : {A E : Type 0} (x y : A) → ◌≡◌ {A = Result A E} (Ok x) (Ok y) → x ≡ y
ok_same x y h = cc

pub err_ok : {A E : Type 0} (e : E) (x : A) → ◌≡◌ {A = Result A E} (Err e) (Ok x) → ⊥
err_ok e x h = cc

pub expect_ok : {A : Type 0} (kind : Kind) (column : ℕ) (o : Option A) (x : A) → expect kind column o ≡ Ok x
    → o ≡ Some x
expect_ok {A = A} kind column (Some y) x h = ap (λ (z : A). Some z) (ok_same y x h)
expect_ok kind column None x h = absurd (let g : Err
    (record { kind = kind; column = column }) ≡ Ok x = h in cc)

pub require_ok : (kind : Kind) (column : ℕ) (b : Bool) (u : Unit {0}) → require kind column b ≡ Ok u
    → b ≡ true
require_ok kind column true u h = refl
require_ok kind column false u h = absurd
    (let g : Err (record { kind = kind; column = column }) ≡ Ok u = h in cc)

pub in_line_ok : {A : Type 0} (line : ℕ) (m : Result A LineFault) (x : A) → in_line line m ≡ Ok x → m ≡ Ok x
in_line_ok {A = A} line (Ok y) x h = ap (λ (z : A). Ok z) (ok_same y x h)
in_line_ok line (Err bad) x h = absurd (let g : Err
    (record { kind = bad.kind; line = line; column = bad.column }) ≡ Ok x = h in cc)

pub and_then_some : {A B : Type 0} (f : A → Option B) (o : Option A) (y : B) → option_and_then f o ≡ Some y
    → (x : A) × (o ≡ Some x) × (f x ≡ Some y)
and_then_some f (Some x) y h = (x, refl, h)
and_then_some f None y h = absurd (let g : None ≡ Some y = h in cc)

pub if_some : {A : Type 0} (b : Bool) (o : Option A) (x : A) → cond b o None ≡ Some x → (b ≡ true)
    × (o ≡ Some x)
if_some true o x h = (refl, h)
if_some false o x h = absurd (let g : None ≡ Some x = h in cc)

pub some_same : {A : Type 0} (x y : A) → Some x ≡ Some y → x ≡ y
some_same x y h = cc

pub and_parts : (a b : Bool) → (a && b) ≡ true → (a ≡ true) × (b ≡ true)
and_parts true b h = (refl, h)
and_parts false b h = absurd (let e : false ≡ true = h in cc)

pub leb_le : (a b : ℕ) → leb a b ≡ true → a ≤ b
leb_le a b h = grind (arith, nat_tests)

pub ltb_lt : (a b : ℕ) → ltb a b ≡ true → a < b
ltb_lt a b h = grind (arith, nat_tests)
