-- The set bytes of a cell, by the laws of RowReading and RowWords.
use mathlib.Core.Path.{◌≡◌}
use mathlib.Core.List.{List}
use Prim.Native.Nat.{ℕ, ◌^◌, ◌<◌, ◌≤◌}
use native.Mathlib.Omega.{arith}
use lib.Pow.{pow_mono}
use Rattle.std.proofs.lemmas.Result.{err_from_is_err_and}
use Rattle.rule.specs.Limits.{max_sets}
use Rattle.rule.specs.Inner.Lanes.{lanes, set_lanes, spread}
use Rattle.rule.proofs.LaneLaws.{chosen_le}
use Rattle.rule.proofs.RowWords.{word_start, word_take, word_done}
use Rattle.base.specs.Outcome.{accepted}
use Rattle.table.specs.Table.{read_byte}
use Rattle.table.proofs.CellByte.{byte_below}
use Rattle.table.proofs.RowReading.{row_start, row_some, row_inside, row_take, row_refused, row_none, row_done}
use Rattle.table.proofs.cells.read_row.Goals as goal

pub loop-init : goal.loop-init
loop-init c =
    rw (c.requires, c.from-rest.ensures) (row_start _ _ _ _ (omega arith), word_start _ _ (rw c.from.ensures at c.in_lane-made.ensures))

pub returns-in_err-sets : goal.returns-in_err-sets
returns-in_err-sets c =
    let e = row_refused c.loop.invariant.0 c.loop-test.true 64 (omega arith) _ c.in_err-sets.ensures in
    let p = err_from_is_err_and c.from_residual.result c.from_residual.ensures.1 in rw (p.1, p.2) (e, tt)

pub bounds-row-r : goal.bounds-row-r
bounds-row-r c =
    row_inside c.loop.invariant.0 c.loop-test.true 64 (omega arith)

-- a set byte is below 2^k
few : {k x : ℕ} (bytes rest : List ℕ) → accepted (x, rest) ≡ read_byte k bytes → k ≤ max_sets → x < 2 ^ set_lanes
few {k} _ _ read small =
    omega (arith, byte_below _ _ _ _ read, pow_mono {i = k} {j = set_lanes} (omega arith))

pub spread-requires : goal.spread-requires
spread-requires c =
    omega (arith, few _ _ c.in_ok-sets.ensures c.args.header.few_sets)

pub with_state-made-requires : goal.with_state-made-requires
unfolding spread
with_state-made-requires c =
    (row_inside c.loop.invariant.0 c.loop-test.true 64 (omega arith), rw c.spread.ensures (chosen_le lanes lanes _ (omega arith)))

pub loop-preserved : goal.loop-preserved
loop-preserved c =
    let inv = c.loop.invariant in
    let h = c.loop-test.true in (
      row_take inv.0 h 64 (omega arith) _ _ c.in_ok-sets.ensures,
      rw (c.with_state-made.ensures, c.spread.ensures, c.from-in-loop.ensures)
          (word_take inv.1 (omega (arith, inv.0.size)) (row_some inv.0 h) inv.0.small 64 (omega arith) _ (few _ _ c.in_ok-sets.ensures c.args.header.few_sets)),
    )

pub returns : goal.returns
returns c =
    let inv = c.loop.invariant in
    let h = c.loop-test.false in
    (row_done inv.0 h, word_done inv.1 (row_none inv.0 h))
