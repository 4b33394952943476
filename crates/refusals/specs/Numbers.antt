-- The numbers of refusals, of a reader's faults and of the causes of a no, and the places that they carry.
use Rattle.std.specs.Prelude.{ℕ, Some, None, Option}
use Rattle.refusals.specs.declared.fault.FaultKind.{FaultKind}
use Rattle.refusals.specs.declared.fault.FaultKind.TheVariants.{CutOff, WrongTag, WrongLength, LeftOver}
use Rattle.refusals.specs.declared.refusal.Refusal.{Refusal}
use Rattle.refusals.specs.declared.refusal.Refusal.TheVariants.{SizeOutOfRange, ModulusOutOfRange, BoundOutOfRange, StatementLength, EntryNotBelowModulus, RelationArgument, KeyLength, KeyEntryOutOfRange, KeyWeight, KeyImage, NoExtractedKey, NoSuchConsoleLine, ConsoleLineInUse, MaskPartLength, MaskContent, LoadsUsedUp, LineMemoryShort, SlipNotCarried, RoomShort, ChallengeOutOfRange, NoSuchExchangeLine, ExchangeLineInUse, LineNotOpened, DiceByte, LineNotChallenged, LogFull, LineAlreadyFree, LabelLength, CoinsLength, CommitmentLength, MessageLimit, SchemeLimit, NoSuchEntry, CommitmentsDiffer, EntryChallenges, ExtractionMemoryShort, EntryAltered, RandomBytesRunOut, Unreadable}
use Rattle.refusals.specs.declared.cause.Cause.{Cause}
use Rattle.refusals.specs.declared.cause.Cause.TheVariants.{Reader, ResidueNotBelowModulus, NoPermutation, ShapeMissing, NotOpened}

abbrev pub fault_number : FaultKind → ℕ
fault_number CutOff = 81
fault_number WrongTag = 82
fault_number WrongLength = 83
fault_number LeftOver = 84

abbrev pub number : Refusal → ℕ
number SizeOutOfRange = 11
number ModulusOutOfRange = 12
number BoundOutOfRange = 13
number StatementLength = 14
number EntryNotBelowModulus = 15
number RelationArgument = 16
number KeyLength = 21
number KeyEntryOutOfRange = 22
number KeyWeight = 23
number KeyImage = 24
number NoExtractedKey = 25
number NoSuchConsoleLine = 30
number ConsoleLineInUse = 31
number MaskPartLength = 32
number MaskContent = 33
number LoadsUsedUp = 34
number LineMemoryShort = 35
number SlipNotCarried = 36
number RoomShort = 37
number ChallengeOutOfRange = 38
number NoSuchExchangeLine = 40
number ExchangeLineInUse = 41
number LineNotOpened = 42
number DiceByte = 43
number LineNotChallenged = 44
number LogFull = 45
number LineAlreadyFree = 46
number LabelLength = 52
number CoinsLength = 53
number CommitmentLength = 54
number MessageLimit = 55
number SchemeLimit = 56
number NoSuchEntry = 61
number CommitmentsDiffer = 62
number EntryChallenges = 63
number ExtractionMemoryShort = 64
number EntryAltered = 65
number RandomBytesRunOut = 71
number (Unreadable fault) = fault_number fault.kind

-- only a refusal of a message has a place
abbrev pub refusal_place : Refusal → Option ℕ
refusal_place SizeOutOfRange = None
refusal_place ModulusOutOfRange = None
refusal_place BoundOutOfRange = None
refusal_place StatementLength = None
refusal_place EntryNotBelowModulus = None
refusal_place RelationArgument = None
refusal_place KeyLength = None
refusal_place KeyEntryOutOfRange = None
refusal_place KeyWeight = None
refusal_place KeyImage = None
refusal_place NoExtractedKey = None
refusal_place NoSuchConsoleLine = None
refusal_place ConsoleLineInUse = None
refusal_place MaskPartLength = None
refusal_place MaskContent = None
refusal_place LoadsUsedUp = None
refusal_place LineMemoryShort = None
refusal_place SlipNotCarried = None
refusal_place RoomShort = None
refusal_place ChallengeOutOfRange = None
refusal_place NoSuchExchangeLine = None
refusal_place ExchangeLineInUse = None
refusal_place LineNotOpened = None
refusal_place DiceByte = None
refusal_place LineNotChallenged = None
refusal_place LogFull = None
refusal_place LineAlreadyFree = None
refusal_place LabelLength = None
refusal_place CoinsLength = None
refusal_place CommitmentLength = None
refusal_place MessageLimit = None
refusal_place SchemeLimit = None
refusal_place NoSuchEntry = None
refusal_place CommitmentsDiffer = None
refusal_place EntryChallenges = None
refusal_place ExtractionMemoryShort = None
refusal_place EntryAltered = None
refusal_place RandomBytesRunOut = None
refusal_place (Unreadable fault) = Some fault.place

abbrev pub cause_number : Cause → ℕ
cause_number (Reader fault) = fault_number fault.kind
cause_number (ResidueNotBelowModulus offset) = 85
cause_number (NoPermutation layer) = 86
cause_number (ShapeMissing layer) = 87
cause_number (NotOpened commitment) = 88

-- an offset in the message, a layer counted from 0, or a commitment counted from 1
abbrev pub place : Cause → ℕ
place (Reader fault) = fault.place
place (ResidueNotBelowModulus offset) = offset
place (NoPermutation layer) = layer
place (ShapeMissing layer) = layer
place (NotOpened commitment) = commitment
