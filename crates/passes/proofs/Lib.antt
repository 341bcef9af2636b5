pub mod Readable
pub mod Under
pub mod ImplicantPass
pub mod ModelPass
pub mod ChildBefore
