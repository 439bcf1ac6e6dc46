-- A deck that is run over volumes.
use Rattle.std.specs.Prelude.{◌≡◌, ◌⊎◌, List, ℕ, Result, Ok, Err, IfErr, OnOk}
use Rattle.std.specs.Result.{result_and}
use Rattle.counted_io.specs.Streams.{Stream, Takes, TakesFront, NoneFailed, OneFailed, IsFlushed}
use Rattle.s360_channel.specs.Channel.{ChannelState}
use Rattle.s360_deck.specs.declared.runs.RunFault.{RunFault}
use Rattle.s360_deck.specs.Runs.{StaysUnlessRun}
use Rattle.s360_deck.specs.Texts.{RunsText}
use Rattle.dasd_words.specs.declared.requests.DeckRun.{DeckRun}
use Rattle.dasd_jobs.specs.Sources.{SourceFile}
use Rattle.dasd_jobs.specs.declared.faults.JobFault.TheVariants.{Write}
use Rattle.dasd_run.specs.declared.commands.Ending.{Ending}
use Rattle.dasd_run.specs.declared.commands.Ending.TheVariants.{Done}
use Rattle.program_faults.specs.declared.fault.ProgramFault.{ProgramFault}
use Rattle.program_faults.specs.declared.fault.ProgramFault.TheVariants as fault
use Rattle.dasd_run.specs.Built.{IsNewChannel, OpensVolumes, AreOpened, NotBuilt}
use Rattle.dasd_run.specs.Decks.{deck_path, ReadsDeck, IsUnread, NoTrace}
use Rattle.dasd_run.specs.Outside.{Outside}
use Rattle.dasd_run.specs.Saves.{Ends}

-- A text is printed, and none of it held back; or there is a write fault, a write failed or the flush, and the first bytes may be printed.
abbrev pub Tells : Result Ending ProgramFault → (text : List ℕ) → (printed_before printed : Stream) → Type 0
Tells (Ok ending) text printed_before printed =
    (ending ≡ Done) × Takes printed_before printed text × NoneFailed printed_before printed × IsFlushed printed
Tells (Err f) text printed_before printed = (f ≡ fault.Job Write) × TakesFront printed_before printed text × OneFailed printed_before printed

-- A deck was read, and run or refused at a new channel of the number and the storage that the words ask for, with a drive for each
-- volume, in their order; no file was opened but those of the volumes, and then that of the deck, where it is one. The trace was ended, and
-- the files of the volumes were written back, unless nothing is to be saved. Their fault is told before that of the trace.
pub record RunsVolumes (result : Result Ending ProgramFault) (asked : DeckRun) (before now : Outside) : Type 0 where
  pub built : ChannelState
  pub is_new : IsNewChannel asked.storage asked.channel built
  pub opened : List SourceFile
  pub drives : OpensVolumes asked.volumes.items built.drives before.opened opened
  pub text : List ℕ
  pub reads : ReadsDeck (deck_path asked) before.read now.read text opened now.opened
  pub run : Result (Unit {0}) RunFault
  pub last : ChannelState
  pub runs : RunsText run text built last before.printed now.printed
  pub flushed : OnOk run (IsFlushed now.printed)
  pub unless_run : StaysUnlessRun run before.printed now.printed
  pub concluded : Result (Unit {0}) ProgramFault
  pub concludes : Ends asked.saves run concluded asked.volumes.items last before.written now.written
  pub traced : Result (Unit {0}) ProgramFault
  pub no_other : IfErr traced (λ e. e ≡ fault.TraceWrite)
  pub told : result ≡ result_and concluded (result_and traced (Ok Done))

-- Why a run does not come to its deck: its trace is not opened, and no file was; its channel is not built; or it is built, and the deck is
-- not read. Of the reader nothing is read but the deck.
abbrev pub IsStop : ProgramFault → DeckRun → (before now : Outside) → Type 0
IsStop f asked before now =
    (NoTrace f asked × (now.opened ≡ before.opened) × (now.read ≡ before.read))
    ⊎ (NotBuilt f asked.storage asked.channel asked.volumes.items before.opened now.opened × (now.read ≡ before.read))
    ⊎ (AreOpened asked.volumes.items before.opened now.opened × IsUnread f (deck_path asked) before.read now.read)

-- a run did not come to its deck, and wrote and printed nothing
abbrev pub Stops : Result Ending ProgramFault → DeckRun → (before now : Outside) → Type 0
Stops (Ok ending) asked before now = ⊥
Stops (Err f) asked before now = IsStop f asked before now × (now.written ≡ before.written) × (now.printed ≡ before.printed)

abbrev pub RunsOrStops : Result Ending ProgramFault → DeckRun → (before now : Outside) → Type 0
RunsOrStops result asked before now = RunsVolumes result asked before now ⊎ Stops result asked before now
