-- A net, which is a table and the masks of its switches, in the words of the rules. Assumes nothing.
--
--   far n      what port p of switch s leads to       size n     the number of switches       mask n     the mask of switch s
use Rattle.std.specs.Prelude.{ℕ, get_or}
use Rattle.rules.specs.Net.{Far}
use Rattle.rules.specs.Table.{house, far_of, switches}
use Rattle.header.specs.declared.Net.{Net}

abbrev pub far : Net → ℕ → ℕ → Far
far n = far_of house n.fabric.table.now

abbrev pub size : Net → ℕ
size n = switches n.fabric.table.now

abbrev pub mask : Net → ℕ → ℕ
mask n s = get_or n.masks.now s 0
