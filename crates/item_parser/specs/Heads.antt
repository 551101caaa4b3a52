-- What stands before the size of bins, as the grammar sees it.
use Rattle.cov_grammar.specs.Bins.{BinsHead}
use Rattle.item_parser.specs.declared.bins.Head.{Head}

abbrev pub head_seen : Head → BinsHead
head_seen h = record { wildcard = h.wildcard; kind = h.word; name = h.name; start = h.start }
