-- The ordinary tray: a list of at most k elements, the topmost last, that one worker uses at a time.
use Rattle.std.specs.Prelude.{ℕ, ◌-◌, cond, List, [], ◌∷◌, ◌++◌, length, take, ◌==◌, slice_index_or}
use Rattle.elements.specs.declared.commands.Command.{Command}
use Rattle.elements.specs.declared.commands.Reply.{Reply}
use Rattle.elements.specs.declared.commands.Code.TheVariants.{Done, Full, Popped, Empty}
use Rattle.elements.specs.Codes.{reply}
use Rattle.pieces.specs.TrayKinds.{is_push}

module _ {E : Type 0} (blank : E) (k : ℕ) where
  -- a push lays its element on top, unless there are k
  abbrev pub ordinary_push : List E → E → List E × Reply E
  ordinary_push xs x = cond (length xs == k) (xs, reply Full blank) (xs ++ (x ∷ []), reply Done blank)

  -- a pop takes the topmost off, unless there is none
  abbrev pub ordinary_pop : List E → List E × Reply E
  ordinary_pop xs =
      cond (length xs == 0) (xs, reply Empty blank)
      (take (length xs - 1) xs, reply Popped (slice_index_or xs (length xs - 1) blank))

  abbrev pub ordinary_tray : List E → Command E → List E × Reply E
  ordinary_tray xs c = cond (is_push c) (ordinary_push xs c.element) (ordinary_pop xs)
