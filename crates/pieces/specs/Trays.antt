-- The whole state of a tray.
use Rattle.elements.specs.declared.element.Element.{Ghosts}
use Rattle.pieces.specs.declared.tray.Tray.{Tray}
use Rattle.pieces.specs.TrayStates.{TrayState, state_of}

abbrev pub tray_state : {E : Type 0} {g : Ghosts E} → Tray E g → TrayState E
tray_state t = state_of t.cells.now t.heads.now t.seats.now t.seatings t.room t.count
