-- What each enum of the code says in document 01's terms: its number and its values, case by case.
use Rattle.std.specs.Prelude.{ℕ}
use Rattle.pseudo_header.specs.Says.{knowledge_says}
use Rattle.le_rules.specs.Flags as Flags
use Rattle.le_rules.specs.Flags.{auxiliary, mic}
use Rattle.le_flags.specs.declared.PduType.{PduType}
use Rattle.le_flags.specs.declared.Phy.{Phy}
use Rattle.le_flags.specs.declared.AuxiliaryKind.{AuxiliaryKind}
use Rattle.le_flags.specs.declared.Dependent.{Dependent}
use Rattle.le_flags.specs.declared.Told.{Told}

-- the PDU types of source document 001, counted from 0; 7 is reserved
abbrev pub pdu_type_number : PduType → ℕ
pdu_type_number PduType.AdvertisingOrData = 0
pdu_type_number PduType.AuxiliaryAdvertising = 1
pdu_type_number PduType.DataMasterToSlave = 2
pdu_type_number PduType.DataSlaveToMaster = 3
pdu_type_number PduType.ConnectedIsochronousMasterToSlave = 4
pdu_type_number PduType.ConnectedIsochronousSlaveToMaster = 5
pdu_type_number PduType.BroadcastIsochronous = 6
pdu_type_number PduType.Reserved = 7

-- the PHYs of source document 001, counted from 0; 3 is reserved
abbrev pub phy_number : Phy → ℕ
phy_number Phy.Le1M = 0
phy_number Phy.Le2M = 1
phy_number Phy.LeCoded = 2
phy_number Phy.Reserved = 3

-- the auxiliary kinds of source document 001, counted from 0
abbrev pub auxiliary_number : AuxiliaryKind → ℕ
auxiliary_number AuxiliaryKind.AuxAdvInd = 0
auxiliary_number AuxiliaryKind.AuxChainInd = 1
auxiliary_number AuxiliaryKind.AuxSyncInd = 2
auxiliary_number AuxiliaryKind.AuxScanRsp = 3

-- bits 12 and 13
abbrev pub dependent_says : Dependent → Flags.Dependent
dependent_says (Dependent.Auxiliary kind) = auxiliary (auxiliary_number kind)
dependent_says (Dependent.Mic checked passed) = mic checked passed

-- what the flags tell
abbrev pub told_says : Told → Flags.Told
told_says t =
    record {
      signal = knowledge_says t.signal;
      noise = knowledge_says t.noise;
      reference = knowledge_says t.reference;
      offences = knowledge_says t.offences;
      pdu = pdu_type_number t.pdu;
      phy = phy_number t.phy;
      dependent = dependent_says t.dependent;
    }
