-- Question 11, by the laws of WriteOutcome.
use native.Mathlib.Omega.{arith}
use native.Mathlib.Nat.{mul-le-mul}
use Rattle.std.proofs.lemmas.Result.{err_from_is_err_and}
use Rattle.table.proofs.RoundTrip.{set_bytes_le}
use Rattle.table.proofs.WriteOutcome.{counted_yes, counted_no, length_size, length_misfit, length_exact}
use Rattle.table.proofs.writer.table_length.Goals as goal

pub returns-then-grid-rows : goal.returns-then-grid-rows
returns-then-grid-rows c =
    length_size _ _ _ _ _ c.requires c.if-grid-rows.true

pub returns-in_err-count : goal.returns-in_err-count
returns-in_err-count c =
    let (same, misfit) = counted_no _ _ _ _ c.count_transitions.ensures _ c.in_err-count.ensures.value in
    let p = err_from_is_err_and c.from_residual.result c.from_residual.ensures.1 in
    rw (p.1, p.2, same) (length_misfit _ _ _ _ _ c.requires c.if-grid-rows.false misfit)

pub overflow_add-result-2 : goal.overflow_add-result-2
overflow_add-result-2 c =
    let (fit, count) = counted_yes _ _ _ _ c.count_transitions.ensures _ c.in_ok-count.ensures.value in
    let h = c.args.header in
    let rows = mul-le-mul h.few_letters h.few_states in
    omega (arith, rows, mul-le-mul rows h.few_states, set_bytes_le c.args.grid.now)

pub returns : goal.returns
returns c =
    let counted = counted_yes _ _ _ _ c.count_transitions.ensures _ c.in_ok-count.ensures.value in
    length_exact _ _ _ _ _ c.requires c.if-grid-rows.false _ counted
