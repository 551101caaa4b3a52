-- What stands on each page, whatever it says. The texts themselves stand in the code.
use Rattle.std.specs.Prelude.{ℕ, List}
use Rattle.page_parts.specs.declared.frame.TheConstants.{HEAD, TAIL}

-- before its parts: the title, the style, and what a reader can choose
unfoldable pub front : List ℕ
front = HEAD.now

-- behind them: the script
unfoldable pub back : List ℕ
back = TAIL.now
