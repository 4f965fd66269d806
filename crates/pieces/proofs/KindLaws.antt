-- The kinds that a tray knows.
use Rattle.std.proofs.Common.{◌≡◌, ℕ, true, refl, ap, arith}
use Rattle.elements.specs.declared.commands.Command.{Command}
use Rattle.pieces.specs.declared.tray.records.TrayKind.{TrayKind}
use Rattle.pieces.specs.declared.tray.records.TrayKind.TheVariants.{Push, Pop}
use Rattle.pieces.specs.TrayKinds.{TrayCommand, tray_kind_number, tray_knows, tray_kind, tray_command, command_of}

-- a command that a tray knows is the same once its kind is read
pub known_command : {E : Type 0} (c : Command E) → tray_knows c.kind ≡ true → command_of (tray_command c) ≡ c
known_command c k = ap (λ n. record { kind = n; element = c.element }) (number c.kind k)
  where
    number : (n : ℕ) → tray_knows n ≡ true → tray_kind_number (tray_kind n) ≡ n
    number n e = grind arith

-- and one that a seat holds is the same once it is written out and read again
pub read_again : {E : Type 0} (d : TrayCommand E) → tray_command (command_of d) ≡ d
read_again d = ap (λ k. record { kind = k; element = d.element }) (again d.kind)
  where
    again : (k : TrayKind) → tray_kind (tray_kind_number k) ≡ k
    again Push = refl
    again Pop = refl
