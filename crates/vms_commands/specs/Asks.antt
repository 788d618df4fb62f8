-- The code's types of arguments, as the types of the specification.
use Rattle.vms_commands.specs.SetWords as words
use Rattle.vms_commands.specs.declared.set_words.BoardWord.{BoardWord}
use Rattle.vms_commands.specs.declared.set_words.SetWord.{SetWord}
use Rattle.vms_commands.specs.declared.set_words.SetWord.TheVariants.{Shipped, OnShelf}
use Rattle.vms_commands.specs.declared.set_words.ShippedSet.{ShippedSet}

-- The shipped set of the specification that the code's value means.
abbrev pub shipped_asked : ShippedSet → words.ShippedSet
shipped_asked set = words.SetOf set.kind set.number

-- The board of the specification that the code's value means.
abbrev pub board_asked : BoardWord → words.BoardWord
board_asked board = words.BoardOf board.kind board.number

-- The set of the specification that the code's value means.
abbrev pub set_asked : SetWord → words.SetWord
set_asked (Shipped set) = words.Shipped (shipped_asked set)
set_asked (OnShelf name) = words.OnShelf name.now
