-- The faults of a disk, as those of opening.
use Rattle.disks.specs.declared.disk.DiskFault.{DiskFault}
use Rattle.disks.specs.declared.disk.DiskFault.TheVariants as disk
use Rattle.journal_reading.specs.declared.fault.OpenFault.{OpenFault}
use Rattle.journal_reading.specs.declared.fault.OpenFault.TheVariants.{Failed, Memory}

abbrev pub open_fault_of : DiskFault → OpenFault
open_fault_of disk.Failed = Failed
open_fault_of disk.Memory = Memory
