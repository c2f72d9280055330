-- Document 01, "BTSnoop": drops between two records.
use Rattle.std.specs.Prelude.{ℕ, ◌+◌, ◌-◌, ◌%◌, ◌^◌}

-- later less earlier, modulo 2^32
unfoldable pub drops_between : (earlier later : ℕ) → ℕ
drops_between earlier later = (later + 2 ^ 32 - earlier) % 2 ^ 32
