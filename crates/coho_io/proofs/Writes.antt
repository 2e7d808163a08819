-- How a creation and an append of files in memory end.
use Rattle.std.proofs.Common.{◌≡◌, ℕ, List, [], ◌++◌, take, refl, sym, ◌∙◌, ap, subst, Some, None, Ok, Err}
use Rattle.std.proofs.Common.{IsSome, OnOk, OnErr, inl, inr, arith}
use Rattle.std.specs.Prelude.{IsErrOf}
use Rattle.std.specs.declared.option.Option.{Option}
use Rattle.std.specs.declared.result.Result.{Result}
use Rattle.coho_io.specs.declared.fault.Fault.{Fault}
use Rattle.coho_io.specs.declared.fault.Fault.TheVariants as fault
use Rattle.coho_io.specs.declared.counts.Kind.{Kind}
use Rattle.coho_io.specs.declared.counts.Kind.TheVariants.{Read, Write}
use Rattle.coho_io.specs.Causes.{Rose, NoneFell}
use Rattle.coho_io.specs.Content.{Creates, CreatesOrStays, AppendsPiece, AppendsFrontOrStays, or_empty}
use Rattle.coho_io.specs.MemFiles.{FilesState, content_of, fault_count, write_count, taken_next, counted}
use Rattle.coho_io.specs.MemFiles.{fault_at, after_put, extended, created, failed_create, appended}
use Rattle.coho_io.specs.MemFiles.{cut_append, bytes_at}
use Rattle.coho_io.proofs.Faults.{content-fault, later-fault, rose-fault}
use Rattle.coho_io.proofs.Puts.{content-put, content-extended, later-put}

-- the clauses of the trait on a call that writes
pub record WriteTells (r : Result (Unit {0}) Fault) (s s' : FilesState) (path : List ℕ)
    (Done Stopped : Type 0) : Type 0 where
  pub ok : OnOk r Done
  pub err : OnErr r Stopped
  pub later : (k : Kind) → NoneFell (fault_count k s) (fault_count k s')
  pub cause : IsErrOf r fault.Failed → Rose (write_count s path) (write_count s' path)

-- one count after another
then-later : (k : Kind) (a b c : FilesState) → NoneFell (fault_count k a) (fault_count k b)
    → NoneFell (fault_count k b) (fault_count k c) → NoneFell (fault_count k a) (fault_count k c)
then-later k a b c f g q = let x = f q in let y = g q in omega (arith, x, y)

later-extended : (k : Kind) (s : FilesState) (path piece : List ℕ)
    → NoneFell (fault_count k s) (fault_count k (extended s path piece))
later-extended k s path piece = later-put k s path (or_empty (bytes_at s path) ++ piece)

-- the count of a path rose from what it was before
rose-after : (s t : FilesState) (path : List ℕ) → NoneFell (write_count s) (write_count t)
    → Rose (write_count s path) (write_count (fault_at Write t path) path)
rose-after s t path f = let x = f path in let y = rose-fault Write t path in omega (arith, x, y)

module _ (s : FilesState) (path : List ℕ) where
  pub created-tells : (r : Result (Unit {0}) Fault) (s' : FilesState)
      → OnOk r ((taken_next s ≡ None) × (s' ≡ created s path))
      → (IsErrOf r fault.Failed → IsSome (taken_next s) × (s' ≡ failed_create s path))
      → (IsErrOf r fault.Memory → s' ≡ counted s)
      → WriteTells r s s' path (Creates (Some (content_of s)) (Some (content_of s')) path)
      (CreatesOrStays (Some (content_of s)) (Some (content_of s')) path)
  created-tells (Ok x) s' ok failed memory =
      subst (λ t. WriteTells (Ok x) s t path (Creates (Some (content_of s)) (Some (content_of t)) path)
      (CreatesOrStays (Some (content_of s)) (Some (content_of t)) path)) (sym ok.1) (record {
        ok = ap Some (content-put (counted s) path []);
        err = tt;
        later = λ k. later-put k (counted s) path [];
        cause = λ e. absurd (cc);
      })
  created-tells (Err fault.Failed) s' ok failed memory =
      subst (λ t. WriteTells (Err fault.Failed) s t path
      (Creates (Some (content_of s)) (Some (content_of t)) path)
      (CreatesOrStays (Some (content_of s)) (Some (content_of t)) path)) (sym (failed refl).1) (record {
        ok = tt;
        err = inl (ap Some (content-fault Write (counted s) path));
        later = λ k. later-fault Write k (counted s) path;
        cause = λ e. rose-fault Write (counted s) path;
      })
  created-tells (Err fault.Memory) s' ok failed memory =
      subst (λ t. WriteTells (Err fault.Memory) s t path
      (Creates (Some (content_of s)) (Some (content_of t)) path)
      (CreatesOrStays (Some (content_of s)) (Some (content_of t)) path)) (sym (memory refl)) (record {
        ok = tt;
        err = inl refl;
        later = λ k q. omega arith;
        cause = λ e. absurd (cc);
      })

  pub appended-tells : (piece : List ℕ) (r : Result (Unit {0}) Fault) (s' : FilesState)
      → OnOk r ((taken_next s ≡ None) × (s' ≡ appended s path piece))
      → (IsErrOf r fault.Failed → (taken : ℕ) × (taken_next s ≡ Some taken)
      × (s' ≡ cut_append s path piece taken))
      → (IsErrOf r fault.Memory → s' ≡ counted s)
      → WriteTells r s s' path (AppendsPiece (Some (content_of s)) (Some (content_of s')) path piece)
      (AppendsFrontOrStays (Some (content_of s)) (Some (content_of s')) path piece)
  appended-tells piece (Ok x) s' ok failed memory =
      subst (λ t. WriteTells (Ok x) s t path
      (AppendsPiece (Some (content_of s)) (Some (content_of t)) path piece)
      (AppendsFrontOrStays (Some (content_of s)) (Some (content_of t)) path piece)) (sym ok.1) (record {
        ok = ap Some (content-extended (counted s) path piece);
        err = tt;
        later = λ k. later-extended k (counted s) path piece;
        cause = λ e. absurd (cc);
      })
  appended-tells piece (Err fault.Failed) s' ok failed memory =
      let F = failed refl in
      let front : List ℕ = take F.0 piece in
      subst (λ t. WriteTells (Err fault.Failed) s t path
      (AppendsPiece (Some (content_of s)) (Some (content_of t)) path piece)
      (AppendsFrontOrStays (Some (content_of s)) (Some (content_of t)) path piece)) (sym F.2) (record {
        ok = tt;
        err = inr (
          F.0,
          ap Some (content-fault Write (extended (counted s) path front) path
              ∙ content-extended (counted s) path front),
        );
        later = λ k. then-later k s (extended (counted s) path front) (cut_append s path piece F.0)
            (later-extended k (counted s) path front)
            (later-fault Write k (extended (counted s) path front) path);
        cause = λ e. rose-after s (extended (counted s) path front) path
            (later-extended Write (counted s) path front);
      })
  appended-tells piece (Err fault.Memory) s' ok failed memory =
      subst (λ t. WriteTells (Err fault.Memory) s t path
      (AppendsPiece (Some (content_of s)) (Some (content_of t)) path piece)
      (AppendsFrontOrStays (Some (content_of s)) (Some (content_of t)) path piece)) (sym (memory refl))
      (record {
        ok = tt;
        err = inl refl;
        later = λ k q. omega arith;
        cause = λ e. absurd (cc);
      })
