-- A worked list of calls of hosts: the only process of a cluster receives three messages. After the first its checkpoint is stored, and it
-- is suspended and resumed. It is killed when two are acknowledged; it is revived from its checkpoint, replays two, and is up with all
-- three
use Rattle.std.specs.Prelude.{◌≡◌, ℕ, List, [], ◌∷◌, ◌++◌, length, take, pos}
use Rattle.decode.specs.declared.insn.Reg.{Reg}
use Rattle.decode.specs.declared.insn.Size.TheVariants.{Byte}
use Rattle.decode.specs.declared.insn.Insn.{Insn}
use Rattle.decode.specs.declared.insn.Insn.TheVariants.{Load, StoreReg, Exit}
use Rattle.verifier.specs.declared.any_image.AnyImage.{AnyImage}
use Rattle.verifier.specs.declared.file_form.FileForm.TheVariants.{Sbi1}
use Rattle.verifier.specs.AnyImage.{IsImageOf, code_of, state_of}
use Rattle.verifier.specs.AnyFile.{IsTypable}
use Rattle.packets.specs.Kept.{kept_bytes}
use Rattle.node.specs.declared.limit.TheConstants.{PAGE, TICK}
use Rattle.node.specs.Limit.{usual}
use Rattle.node.specs.Node.{TheNode}
use Rattle.node.specs.Transmission.{ticked, run_at}
use Rattle.node.specs.Kept.{kept_of}
use Rattle.node.specs.Suspension.{suspended_bytes}
use Rattle.recovery.specs.Restoration.{up}
use Rattle.node_laws.specs.Back.{length_of}
use Rattle.node_laws.specs.WorkedMessages.{gave, quiet, collects, restores, input, delivery, number, acknowledgement, covers, ask, told}
use Rattle.node_laws.specs.WorkedMessages.{resume, restored, g1, g2, g3, g4, g5, g6, g7, g8, n0, n1, n2, n3, n4, n5, n6, n7, n8, n9, n10}
use Rattle.node_laws.specs.WorkedMessages.{comes, replays, replays_more, begins, has_answer}
use Rattle.recovery.specs.declared.lifecycle.Lifecycle.{Lifecycle}
use Rattle.recovery.specs.declared.lifecycle.Lifecycle.TheVariants.{Up, Collecting, Replaying, Restoring}
use Rattle.process.specs.Process.{TheProcess}
use Rattle.node_laws.specs.HostProcess.{Absent, Runs, Sleeps}
use Rattle.node_laws.specs.HostSystem.{System, Opens, new_system, HostCall, Gave, Handed, Worked, Froze, Stored, Saved, Suspended, Resumed}
use Rattle.node_laws.specs.HostSystem.{Died, Revived, GaveOut, HandedOut, DidOut, StoredOut, AreCalls, after_calls}
use Rattle.node_laws.specs.HostLaws.{StayExact, OneAtATime}

-- ---- its handler

-- these registers are r0, r1 and r2; the first byte of the message becomes the state, and nothing is sent
abbrev pub copies : Reg → Reg → Reg → List Insn
copies r0 r1 r2 = Load Byte r0 r1 (pos 0) ∷ StoreReg Byte r2 r0 (pos 0) ∷ Exit ∷ []

-- the image is of form 1 and has just this code, with a state of one byte
pub record IsCopying (image : AnyImage) : Type 0 where
  pub r0 : Reg
  pub r1 : Reg
  pub r2 : Reg
  pub numbers : (r0.number ≡ 0) × (r1.number ≡ 1) × (r2.number ≡ 2)
  pub is_image : IsImageOf Sbi1 (copies r0 r1 r2) 1 image

-- there is such an image whose code is typable: its file loads
abbrev pub CopyingLoads : Type 0
CopyingLoads = (image : AnyImage) × (IsCopying image × IsTypable Sbi1 (code_of image) (state_of image))

-- ---- the calls

-- the process with this image, in this stage
abbrev pub process : AnyImage → Lifecycle → TheProcess
process image lifecycle = record { image = image; lifecycle = lifecycle }

-- up to its death, if its checkpoint has these bytes
abbrev pub before : AnyImage → List ℕ → List HostCall
before image bytes =
    -- an input comes for the process, and the gateway sends it
    DidOut g1
    ∷ StoredOut
    ∷ GaveOut (delivery 1) (gave [] g1)
    -- the process gets the message
    ∷ Handed 1 (delivery 1) (process image (Up n1))
    -- its handler runs on the message
    ∷ Worked 1 (process image (Up n2))
    -- it tells the gateway the RSN of the message, and the gateway acknowledges it
    ∷ Gave 1 (number 1) (process image (Up (quiet n2)))
    ∷ HandedOut (number 1) g2
    ∷ StoredOut
    ∷ GaveOut (acknowledgement 1) (gave [] g2)
    ∷ Handed 1 (acknowledgement 1) (process image (Up n3))
    -- it makes a checkpoint, which is stored, and is told so
    ∷ Froze 1 bytes (process image (Up n4))
    ∷ Stored 1 bytes
    ∷ Saved 1 (process image (Up n5))
    -- it tells the gateway that one message is covered for good
    ∷ Gave 1 covers (process image (Up (quiet n5)))
    -- it is suspended, and resumed from these bytes
    ∷ Suspended 1 (suspended_bytes (quiet n5))
    ∷ Resumed 1 usual (process image (Up (quiet n5)))
    -- two more inputs come, and the gateway sends them
    ∷ DidOut g3
    ∷ DidOut g4
    ∷ StoredOut
    ∷ GaveOut (delivery 2) (gave (delivery 3 ∷ []) g4)
    ∷ GaveOut (delivery 3) (gave [] g4)
    -- the process gets the second message, works on it and tells its RSN
    ∷ Handed 1 (delivery 2) (process image (Up n6))
    ∷ Worked 1 (process image (Up n7))
    ∷ Gave 1 (number 2) (process image (Up (quiet n7)))
    -- the same with the third
    ∷ Handed 1 (delivery 3) (process image (Up n8))
    ∷ Worked 1 (process image (Up n9))
    ∷ Gave 1 (number 3) (process image (Up (quiet n9)))
    -- the gateway acknowledges both RSNs
    ∷ HandedOut (number 2) g5
    ∷ HandedOut (number 3) g6
    ∷ StoredOut
    ∷ GaveOut (acknowledgement 2) (gave (acknowledgement 3 ∷ []) g6)
    ∷ GaveOut (acknowledgement 3) (gave [] g6)
    -- the process gets one of these acknowledgements
    ∷ Handed 1 (acknowledgement 2) (process image (Up n10))
    ∷ []

-- from its death on
abbrev pub behind : AnyImage → List HostCall
behind image =
    -- it is killed
    Died 1
    -- it is revived from its checkpoint
    ∷ Revived 1 usual 2 (process image (Collecting comes))
    -- it asks the gateway what its log holds, and the gateway answers
    ∷ Gave 1 ask (process image (Collecting (collects [] comes)))
    ∷ HandedOut ask g7
    ∷ StoredOut
    ∷ GaveOut told (gave [] g7)
    -- it gets the answer, and begins to replay two messages
    ∷ Handed 1 told (process image (Replaying replays))
    -- its handler runs on the second message again
    ∷ Worked 1 (process image (Replaying replays_more))
    -- and on the third; the replay is over, and it begins to restore its RSNs
    ∷ Worked 1 (process image (Restoring begins))
    -- it asks the gateway for these, and the gateway answers
    ∷ Gave 1 resume (process image (Restoring (restores [] begins)))
    ∷ HandedOut resume g8
    ∷ StoredOut
    ∷ GaveOut restored (gave [] g8)
    -- it gets the answer, and is up
    ∷ Handed 1 restored (process image (Up (ticked (up has_answer))))
    ∷ []

-- the process is opened, and these bytes are stored of it
abbrev pub opened : AnyImage → List ℕ → System
opened image stored = new_system 1 (λ _. process image (Up n0)) (λ _. stored) PAGE TICK

-- the system after the calls up to its death and k calls after that
abbrev pub later : AnyImage → List ℕ → List ℕ → ℕ → System
later image stored bytes k = after_calls (opened image stored) (before image bytes ++ take k (behind image))

-- with these bytes of its opening and of its checkpoint they are such calls, from an opening on; the process is killed alone, and stays
-- exact. After fifteen calls it is suspended, and after one more it runs again as it was. When it is killed it has three messages, of
-- which two are acknowledged without a gap. It collects, until a call after which it has two to replay. Then it is up in its second
-- incarnation, with all three and the state that it had
pub record IsWorked (image : AnyImage) (stored bytes : List ℕ) : Type 0 where
  pub opens : Opens 1 (λ _. image) (λ _. usual) (λ _. process image (Up n0)) (λ _. 0 ∷ []) (λ _. stored)
  pub calls : AreCalls (λ _. image) 1 (opened image stored) (before image bytes ++ behind image)
  pub alone : OneAtATime 1 (opened image stored) (before image bytes ++ behind image)
  pub exact : StayExact 1 (opened image stored) (before image bytes ++ behind image)
  pub sleeps : (after_calls (opened image stored) (take 15 (before image bytes))).processes 1
      ≡ Sleeps (process image (Up (quiet n5))) (suspended_bytes (quiet n5))
  pub wakes : (after_calls (opened image stored) (take 16 (before image bytes))).processes 1 ≡ Runs (process image (Up (quiet n5))) Absent
  pub was_up : (after_calls (opened image stored) (before image bytes)).processes 1 ≡ Runs (process image (Up n10)) Absent
  pub had : length_of n10 ≡ 3
  pub acknowledged : run_at n10 ≡ 2
  pub was : n10.state ≡ input 3
  pub collects : (later image stored bytes 6).processes 1 ≡ Runs (process image (Collecting (collects [] comes))) Absent
  pub recovers : (later image stored bytes 7).processes 1 ≡ Runs (process image (Replaying replays)) Absent
  pub replays_two : length replays.plan ≡ 2
  pub node : TheNode
  pub is_up : (after_calls (opened image stored) (before image bytes ++ behind image)).processes 1 ≡ Runs (process image (Up node)) Absent
  pub has : length_of node ≡ 3
  pub life : node.life ≡ 2
  pub state : node.state ≡ input 3

-- there is such an image, and this holds for each
abbrev pub HostsCanCall : Type 0
HostsCanCall = CopyingLoads × ((image : AnyImage) → IsCopying image → IsWorked image (kept_bytes (kept_of n0)) (kept_bytes (kept_of n4)))
