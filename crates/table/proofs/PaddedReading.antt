-- Reading into the arrays: cells read as rows of the arrays' width are the rows of the grid, padded, so what is read is the
-- grid as the arrays hold it.
use mathlib.Core.Path.{◌≡◌, refl, sym, ◌∙◌, ap}
use mathlib.Core.List.{List, [], ◌∷◌, map}
use Prim.Native.Nat.{ℕ, zero, suc, ◌/◌, ◌%◌, ◌^◌, ◌<◌, ◌≤◌}
use native.Mathlib.Nat.{suc-sub-suc, sub-zero, le_of_suc-le-suc, not-suc-le-zero}
use native.Mathlib.Omega.{arith}
use lib.Dec.{eqb}
use lib.ListN.{length, replicate, length-map}
use Rattle.std.proofs.lemmas.List.{drop-replicate}
use Rattle.base.specs.Outcome.{refused, accepted, ◌then◌}
use Rattle.base.specs.Reading.{Read, read_many}
use Rattle.base.specs.Lists.{pad}
use Rattle.base.proofs.Accepted.{IfAccepted, followed, weaker, then_accepted, then_same, then_assoc}
use Rattle.rule.specs.Limits.{max_states, max_letters, no_transition}
use Rattle.rule.specs.Inner.Padded.{blank_row, blank_square, padded_row, padded_square, padded}
use Rattle.table.specs.Table.{read_byte, read_transition, read_row, read_cell, read_grid}
use Rattle.table.specs.Inner.Reader.{replaced, read_square, read_padded}
use Rattle.table.proofs.Reading.{byte_read_lem}

-- one thing, then more behind it
abbrev read_cons : {A : Type 0} → Read A → (List ℕ → Read (List A)) → Read (List A)
read_cons one more = one then λ x. more x.1 then λ xs. accepted (x.0 ∷ xs.0, xs.1)

-- what is read, in another form
abbrev formed : {A B : Type 0} → (A → B) → Read A → Read B
formed f o = o then λ x. accepted (f x.0, x.1)

-- the form of a list by the forms of its head and its tail
form_cons : {A B : Type 0} (f : A → B) (g h : List A → List B) → ((x : A) (xs : List A) → h (x ∷ xs) ≡ f x ∷ g xs)
    → (one : Read A) (one' : Read B) → one' ≡ formed f one
    → (more : List ℕ → Read (List A)) (more' : List ℕ → Read (List B)) → ((bytes : List ℕ) → more' bytes ≡ formed g (more bytes))
    → read_cons one' more' ≡ formed h (read_cons one more)
form_cons f g h cons (refused number) one' e more more' e' = rw e
form_cons {A} f g h cons (accepted x) one' e more more' e' = rw (e, e' x.1) (tail (more x.1))
  where
    tail : (o : Read (List A)) → read_cons (accepted (f x.0, [])) (λ _. formed g o) ≡ formed h (read_cons (accepted x) (λ _. o))
    tail (refused number) = refl
    tail (accepted xs) = rw (cons x.0 xs.0)

-- many things, each in another form
pub read_many_map : {A B : Type 0} (f : A → B) (one : List ℕ → Read A) (one' : List ℕ → Read B)
    → ((bytes : List ℕ) → one' bytes ≡ (one bytes then λ x. accepted (f x.0, x.1)))
    → (c : ℕ) (bytes : List ℕ) → read_many one' c bytes ≡ (read_many one c bytes then λ x. accepted (map f x.0, x.1))
unfolding read_many
read_many_map f one one' e zero bytes = refl
read_many_map f one one' e (suc c) bytes =
    form_cons f (map f) (map f) (λ x xs. refl) (one bytes) (one' bytes) (e bytes)
    (read_many one c) (read_many one' c) (read_many_map f one one' e c)

-- a row without standing bits
row_blank : (k w : ℕ) (bytes : List ℕ) → read_row k w 0 bytes ≡ accepted (replicate w no_transition, bytes)
unfolding read_row read_transition
row_blank k zero bytes = refl
row_blank k (suc w) bytes = rw (row_blank k w bytes)

pad_cons : {A : Type 0} (w : ℕ) (z x : A) (l : List A) → pad (suc w) z (x ∷ l) ≡ x ∷ pad w z l
unfolding pad
pad_cons w z x l = rw (suc-sub-suc w (length l))

-- a row read at a greater width is the row, padded
row_wide : (k n w standing : ℕ) (bytes : List ℕ) → n ≤ w → standing < 2 ^ n
    → read_row k w standing bytes ≡ (read_row k n standing bytes then λ x. accepted (pad w no_transition x.0, x.1))
unfolding read_row pad
row_wide k zero w standing bytes le h = let e : standing ≡ 0 = omega arith in rw (e, row_blank k w bytes, sub-zero w)
row_wide k (suc n) zero standing bytes le h = absurd (not-suc-le-zero le)
row_wide k (suc n) (suc w) standing bytes le h =
    let t = read_transition k (eqb (standing % 2) 1) bytes in
    form_cons (λ x. x) (pad w no_transition) (pad (suc w) no_transition) (pad_cons w no_transition) t t (sym (then_accepted t))
    (read_row k n (standing / 2)) (read_row k w (standing / 2)) (λ b. row_wide k n w (standing / 2) b (le_of_suc-le-suc le) (omega arith))

-- and so for a cell
pub read_cell_wide : (n k w : ℕ) (bytes : List ℕ) → n ≤ w
    → read_cell n k w bytes ≡ (read_cell n k n bytes then λ x. accepted (pad w no_transition x.0, x.1))
unfolding read_cell
read_cell_wide n k w bytes le =
    let standing = read_byte n bytes in
    then_same standing _ _ (weaker _ _ standing (byte_read_lem n bytes) λ x says. row_wide k n w x.0 x.1 le says.0)
    ∙ sym (then_assoc standing _ _)

-- as many as were asked for
many_length : {A : Type 0} (one : List ℕ → Read A) (c : ℕ) (bytes : List ℕ) → IfAccepted (λ x. length x.0 ≡ c) (read_many one c bytes)
unfolding read_many
many_length one zero bytes = refl
many_length one (suc c) bytes =
    followed (λ _. Unit {0}) _ (one bytes) _ (anything (one bytes)) λ x _.
    followed (λ xs. length xs.0 ≡ c) _ (read_many one c x.1) _ (many_length one c x.1) λ xs e. ap suc e
  where
    anything : {A : Type 0} (o : Read A) → IfAccepted (λ _. Unit {0}) o
    anything (refused number) = tt
    anything (accepted x) = tt

-- many things in another form, stored over the front of a blank array
padded_many : {A B : Type 0} (f : A → B) (one : List ℕ → Read A) (one' : List ℕ → Read B) (w : ℕ) (z : B)
    → ((bytes : List ℕ) → one' bytes ≡ formed f (one bytes))
    → (c : ℕ) (bytes : List ℕ) → replaced c (replicate w z) (read_many one' c bytes) ≡ formed (λ xs. pad w z (map f xs)) (read_many one c bytes)
unfolding pad
padded_many f one one' w z e c bytes =
    let many = read_many one c bytes in
    rw (read_many_map f one one' e c bytes) (then_assoc many _ _
    ∙ then_same many _ _ (weaker _ _ many (many_length one c bytes) λ x same.
    rw (drop-replicate c w z, length-map x.0 f, same)))

square_padded : (n k : ℕ) (bytes : List ℕ) → n ≤ max_states → read_square n k bytes ≡ formed padded_square (read_many (read_cell n k n) n bytes)
unfolding read_square padded_square padded_row
square_padded n k bytes le =
    padded_many padded_row (read_cell n k n) (read_cell n k max_states) max_states blank_row (λ b. read_cell_wide n k max_states b le) n bytes

-- what is read is the padded grid
pub grid_padded : (n m k : ℕ) (bytes : List ℕ) → n ≤ max_states
    → read_padded n m k bytes ≡ (read_grid n m k bytes then λ x. accepted (padded x.0, x.1))
unfolding read_padded read_grid padded
grid_padded n m k bytes le =
    padded_many padded_square (read_many (read_cell n k n) n) (read_square n k) max_letters blank_square (λ b. square_padded n k b le) m bytes
