-- The whole state of a tray: its three strips, to their ends, and its own numbers.
use Rattle.std.specs.Prelude.{ℕ, zero, suc, cond, List, [], ◌∷◌, ◌++◌, pos, nat_lt, slice_index_or, slice_set}
use Rattle.pieces.specs.declared.tray.records.Cell.{Cell}
use Rattle.pieces.specs.declared.tray.records.Head.{Head}
use Rattle.pieces.specs.TrayKinds.{TraySeat}

-- the head lies in the first place of its strip; `room` is k, and `count` the number of workers
pub record TrayState (E : Type 0) : Type 0 where
  pub cells : List (Cell E)
  pub heads : List (Head E)
  pub seats : List (TraySeat E)
  pub seatings : ℕ
  pub room : ℕ
  pub count : ℕ

module _ {E : Type 0} where
  -- the state with these parts
  abbrev pub state_of : List (Cell E) → List (Head E) → List (TraySeat E) → ℕ → ℕ → ℕ → TrayState E
  state_of cs hs qs g k n = record { cells = cs; heads = hs; seats = qs; seatings = g; room = k; count = n }

  -- what stands at a place of a strip; the blank is for a place past its end, which no worker reaches
  abbrev pub cell_at : E → List (Cell E) → ℕ → Cell E
  cell_at blank cs x = slice_index_or cs x (record { element = blank; tick = pos 0 })

  abbrev pub head_of : E → List (Head E) → Head E
  head_of blank hs = slice_index_or hs 0 (record { index = 0; element = blank; tick = pos 0 })

  -- the elements of the cells 1 to y
  abbrev pub below : E → List (Cell E) → ℕ → List E
  below blank cs zero = []
  below blank cs (suc y) = below blank cs y ++ ((cell_at blank cs (suc y)).element ∷ [])

  -- what lies on a tray whose head is at index x with the element v, the topmost last
  abbrev pub stack : E → List (Cell E) → ℕ → E → List E
  stack blank cs zero v = []
  stack blank cs (suc y) v = below blank cs y ++ (v ∷ [])

  -- the content; a tray without workers has none
  abbrev pub tray_content : E → TrayState E → List E
  tray_content blank s = cond (nat_lt 0 s.count) (stack blank s.cells (head_of blank s.heads).index (head_of blank s.heads).element) []

  -- the state with other cells, another head, other seats, another seat of worker i
  abbrev pub with_cells : TrayState E → List (Cell E) → TrayState E
  with_cells s cs = record s { cells = cs }

  abbrev pub with_head : TrayState E → Head E → TrayState E
  with_head s h = record s { heads = slice_set s.heads 0 h }

  abbrev pub with_seats : TrayState E → List (TraySeat E) → TrayState E
  with_seats s qs = record s { seats = qs }

  abbrev pub with_seat : TrayState E → ℕ → TraySeat E → TrayState E
  with_seat s i q = with_seats s (slice_set s.seats i q)
