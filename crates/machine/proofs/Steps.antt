-- The steps of a machine, as steps of each world that it stands for
use Rattle.std.proofs.Common.{◌≡◌, ℕ, List, sym, ◌∙◌}
use Rattle.std.specs.Prelude.{Option, None, slice_index_or}
use Rattle.world.specs.declared.packet.Packet.{Packet}
use Rattle.world.specs.declared.call.Call.{Call}
use Rattle.world.specs.declared.answer.Answer.{Answer}
use Rattle.world.specs.World.{World, put}
use Rattle.world.specs.Calls.{after}
use Rattle.world.specs.Answers.{MayAnswer}
use Rattle.world.specs.Refusals.{refusal_of}
use Rattle.theorems.proofs.SoundCalls.{sound-call}
use Rattle.theorems.proofs.TidyCalls.{tidy-call}
use Rattle.theorems.proofs.GateCalls.{gated-call}
use Rattle.session_process.specs.Wire.{Puts}
use Rattle.machine.specs.Simulation.{TheMachine, Shows, Stands, Steps}
use Rattle.machine.proofs.Updates.{put-is}
use Rattle.machine.proofs.Inputs.{unsent-after}

-- the wire after one key has changed
pub put-wire : (w : World) (old new : List (Option Packet)) (key : ℕ) (was is : Option Packet) → ((j : ℕ) → w.wire j ≡ slice_index_or old j None) → Puts old new key was is → (j : ℕ) → put w.wire key is j ≡ slice_index_or new j None
put-wire w old new key was is wire puts j = put-is w.wire (λ k. slice_index_or new k None) key is puts.now (λ k apart. puts.others k apart ∙ sym (wire k)) j

-- a machine that keeps other packets, and counts other calls, shows the world with these packets
pub shows-wire : (m : TheMachine) (w : World) → Stands m w → (calls : ℕ) (slots : List (Option Packet)) (wire : ℕ → Option Packet) → ((j : ℕ) → wire j ≡ slice_index_or slots j None) → Shows (record m { slots = slots; calls = calls }) (record w { wire = wire })
shows-wire m w s calls slots wire wire_is =
    record {
      count = s.shows.count;
      process = s.shows.process;
      logs = s.shows.logs;
      gates = s.shows.gates;
      shut = s.shows.shut;
      feeds = s.shows.feeds;
      shown = s.shows.shown;
      wire = wire_is;
      started = s.shows.started;
      outside = s.shows.outside;
    }

-- a step whose new machine shows the new world stands for it: what every call keeps still holds
pub step : (old new : TheMachine) (room : ℕ) (call : Call) (answer : Answer) (w : World) → Stands old w → refusal_of w room call ≡ None → MayAnswer w call answer → Shows new (after w call answer) → new.lengths ≡ old.lengths → Steps old new room call answer w
step old new room call answer w s accepted answered shows lengths =
    record {
      accepted = accepted;
      answered = answered;
      stands = record {
        shows = shows;
        sound = sound-call room w call answer accepted answered s.sound;
        tidy = tidy-call room w call answer accepted answered s.sound s.tidy;
        gated = gated-call room w call answer accepted answered s.sound s.gated;
        unsent = unsent-after w room call answer accepted s.unsent;
      };
      lengths = lengths;
    }
