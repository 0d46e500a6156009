-- A lent panel as the code has it.
use Rattle.std.specs.Prelude.{◌≡◌, ◌&&◌, Bool, cond, Result, Ok, Err}
use Rattle.lent_panel.specs.Panel.{LentPanel, lent_panel_of, panel_in, panel_truths}
use Rattle.panel_rules.specs.Soundness.{sound_test}
use Rattle.panel_rules.specs.State.{Panel}
use Rattle.refusal.specs.declared.Refusal.{Refusal}
use Rattle.refusal.specs.declared.Refusal.TheVariants.{Unsound}

-- a panel put into fields
abbrev pub IsLentOf : Panel → LentPanel → Type 0
IsLentOf p l = l ≡ lent_panel_of p

-- the panel that lies in them
abbrev pub panel_found : LentPanel → Result Panel Refusal
panel_found l = cond (panel_truths l) (Ok (panel_in l)) (Err Unsound)

abbrev pub found_sound : LentPanel → Bool
found_sound l = panel_truths l && sound_test (panel_in l)

-- the number of nodes and the marks are the same
abbrev pub IsStarted : LentPanel → LentPanel → Type 0
IsStarted before after =
    after ≡ record {
      ring = record {
        n = before.ring.n;
        active = after.ring.active;
        color = after.ring.color;
        sent = after.ring.sent;
        received = after.ring.received;
        pending = after.ring.pending;
        pos = after.ring.pos;
        q = after.ring.q;
        black = after.ring.black;
        closed = after.ring.closed;
      };
      firmware = before.firmware;
      map = before.map;
      recorded = after.recorded;
    }
