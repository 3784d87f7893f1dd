-- The names of the calls.
use mathlib.Core.Path.{◌≡◌, refl, sym, ◌∙◌, ap}
use mathlib.Core.Bool.{cond}
use mathlib.Core.List.{List}
use Prim.Native.Char.{code}
use Prim.Native.Nat.{ℕ}
use lib.Dec.{eqb}
use lib.ListN.{get_or}
use Rattle.stored.specs.Calls.{name_of}
use Rattle.stored.specs.declared.calls.Call.{Call}
use Rattle.stored.specs.declared.calls.Call.TheVariants.{Read, Write, Start, Step, Tree, Plain, Same, Successors}

-- a name that is none of them
pub no_name_lem : (name : List ℕ) → (name ≡ name_of Read → ⊥) → (name ≡ name_of Write → ⊥) → (name ≡ name_of Start → ⊥) → (name ≡ name_of Step → ⊥)
    → (name ≡ name_of Tree → ⊥) → (name ≡ name_of Plain → ⊥) → (name ≡ name_of Same → ⊥) → (name ≡ name_of Successors → ⊥)
    → (call : Call) → name ≡ name_of call → ⊥
no_name_lem name read write start step tree plain same successors Read = read
no_name_lem name read write start step tree plain same successors Write = write
no_name_lem name read write start step tree plain same successors Start = start
no_name_lem name read write start step tree plain same successors Step = step
no_name_lem name read write start step tree plain same successors Tree = tree
no_name_lem name read write start step tree plain same successors Plain = plain
no_name_lem name read write start step tree plain same successors Same = same
no_name_lem name read write start step tree plain same successors Successors = successors

-- the names tell the calls apart: by the first letter, and `start`, `step`, `same` and `successors` by the third
call_of : List ℕ → Call
call_of name =
    cond (eqb (get_or name 0 0) (code "r")) Read
    (cond (eqb (get_or name 0 0) (code "w")) Write
    (cond (eqb (get_or name 0 0) (code "t")) Tree
    (cond (eqb (get_or name 0 0) (code "p")) Plain
    (cond (eqb (get_or name 2 0) (code "a")) Start
    (cond (eqb (get_or name 2 0) (code "e")) Step
    (cond (eqb (get_or name 2 0) (code "m")) Same Successors))))))

call_of_lem : (call : Call) → call_of (name_of call) ≡ call
unfolding call_of name_of
call_of_lem Read = refl
call_of_lem Write = refl
call_of_lem Start = refl
call_of_lem Step = refl
call_of_lem Tree = refl
call_of_lem Plain = refl
call_of_lem Same = refl
call_of_lem Successors = refl

pub names_one : (a b : Call) → name_of a ≡ name_of b → a ≡ b
names_one a b e = sym (call_of_lem a) ∙ ap call_of e ∙ call_of_lem b
